use Rattle.std.proofs.Common.{arith}
use Rattle.sn_check_roots.proofs.checking.words_law.Goals as goal

pub returns : goal.returns
returns c block = omega (arith, c.type_inv.words block)
