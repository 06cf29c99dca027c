use Rattle.std.proofs.Common.{refl}
use Rattle.sn_fuse.proofs.named.read_unlink.Goals as goal

pub returns-in_err-name-clause-none : goal.returns-in_err-name-clause-none
returns-in_err-name-clause-none c = λ _. c.in_err-name.ensures.none refl
