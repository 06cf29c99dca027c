use Rattle.std.proofs.Common.{refl}
use Rattle.sn_fuse.proofs.fixed.read_get_attr.Goals as goal

pub returns-in_err-flags-clause-none : goal.returns-in_err-flags-clause-none
returns-in_err-flags-clause-none c = λ _. c.in_err-flags.ensures.none refl
