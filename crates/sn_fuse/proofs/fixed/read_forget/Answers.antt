use Rattle.std.proofs.Common.{refl}
use Rattle.sn_fuse.proofs.fixed.read_forget.Goals as goal

pub returns-in_err-lookups-clause-none : goal.returns-in_err-lookups-clause-none
returns-in_err-lookups-clause-none c = λ _. c.in_err-lookups.ensures.none refl
