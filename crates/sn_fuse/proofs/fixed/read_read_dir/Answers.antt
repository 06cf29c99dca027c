use Rattle.std.proofs.Common.{refl}
use Rattle.sn_fuse.proofs.fixed.read_read_dir.Goals as goal

pub returns-in_err-span-clause-none : goal.returns-in_err-span-clause-none
returns-in_err-span-clause-none c = λ _. c.in_err-span.ensures.none refl
