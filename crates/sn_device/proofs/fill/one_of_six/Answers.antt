use Rattle.std.proofs.Common.{lit<}
use Rattle.sn_device.proofs.SectorLemmas.{IsSector-replicate}
use Rattle.sn_device.proofs.fill.one_of_six.Goals as goal

pub returns-in-2-clause-whole : goal.returns-in-2-clause-whole
returns-in-2-clause-whole c = IsSector-replicate 0 (lit< tt)

pub returns-in-3-clause-whole : goal.returns-in-3-clause-whole
returns-in-3-clause-whole c = IsSector-replicate 1 (lit< tt)

pub returns-in-4-clause-whole : goal.returns-in-4-clause-whole
returns-in-4-clause-whole c = IsSector-replicate 165 (lit< tt)
