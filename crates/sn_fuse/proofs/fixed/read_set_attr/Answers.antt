use Rattle.std.proofs.Common.{refl}
use Rattle.sn_fuse.proofs.fixed.read_set_attr.Goals as goal

pub returns-in_err-attributes-clause-none : goal.returns-in_err-attributes-clause-none
returns-in_err-attributes-clause-none c = λ _. c.in_err-attributes.ensures.none refl
