use Rattle.std.proofs.Common.{refl}
use Rattle.sn_fuse.proofs.fixed.read_access.Goals as goal

pub returns-in_err-mask-clause-none : goal.returns-in_err-mask-clause-none
returns-in_err-mask-clause-none c = λ _. c.in_err-mask.ensures.none refl
