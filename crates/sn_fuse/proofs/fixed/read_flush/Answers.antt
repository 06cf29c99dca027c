use Rattle.std.proofs.Common.{refl}
use Rattle.sn_fuse.proofs.fixed.read_flush.Goals as goal

pub returns-in_err-handle-clause-none : goal.returns-in_err-handle-clause-none
returns-in_err-handle-clause-none c = λ _. c.in_err-handle.ensures.none refl
