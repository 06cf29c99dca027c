use Rattle.std.proofs.Common.{refl}
use Rattle.sn_fuse.proofs.fixed.read_list_xattr.Goals as goal

pub returns-in_err-size-clause-none : goal.returns-in_err-size-clause-none
returns-in_err-size-clause-none c = λ _. c.in_err-size.ensures.none refl
