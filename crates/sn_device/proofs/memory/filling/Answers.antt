use Rattle.std.proofs.Common.{lit<}
use Rattle.sn_device.proofs.SectorLemmas.{IsSector-replicate}
use Rattle.sn_device.proofs.memory.filling.Goals as goal

pub returns-in-Zero-clause-whole : goal.returns-in-Zero-clause-whole
returns-in-Zero-clause-whole c = IsSector-replicate 0 (lit< tt)

pub returns-in-One-clause-whole : goal.returns-in-One-clause-whole
returns-in-One-clause-whole c = IsSector-replicate 1 (lit< tt)

pub returns-in-Junk-clause-whole : goal.returns-in-Junk-clause-whole
returns-in-Junk-clause-whole c = IsSector-replicate 165 (lit< tt)
