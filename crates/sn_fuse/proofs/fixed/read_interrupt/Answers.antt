use Rattle.std.proofs.Common.{refl}
use Rattle.sn_fuse.proofs.fixed.read_interrupt.Goals as goal

pub returns-in_err-unique-clause-none : goal.returns-in_err-unique-clause-none
returns-in_err-unique-clause-none c = λ _. c.in_err-unique.ensures.none refl
