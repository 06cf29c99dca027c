use Rattle.std.proofs.Common.{arith}
use Rattle.sn_map.proofs.BitsLemmas.{bit_removed}
use Rattle.sn_map.proofs.plain.bit_cleared.Goals as goal

pub returns : goal.returns
returns c = bit_removed c.args.word c.args.k (omega arith) c.requires
