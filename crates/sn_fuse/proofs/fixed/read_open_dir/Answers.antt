use Rattle.std.proofs.Common.{refl}
use Rattle.sn_fuse.proofs.fixed.read_open_dir.Goals as goal

pub returns-in_err-read_bits-clause-none : goal.returns-in_err-read_bits-clause-none
returns-in_err-read_bits-clause-none c = λ _. c.in_err-read_bits.ensures.none refl
