use Rattle.std.proofs.Common.{◌++◌, length, ap, length-append, arith}
use Rattle.sn_times_file.specs.Kept.{head_bytes}
use Rattle.sn_times_file.proofs.Spelled.{length-head_bytes}
use Rattle.sn_times_file.proofs.reading.read_root.Goals as goal

pub returns-then-remaining-lt-HEAD_SIZE-clause-only : goal.returns-then-remaining-lt-HEAD_SIZE-clause-only
returns-then-remaining-lt-HEAD_SIZE-clause-only c = λ root rest is e. absurd (omega (arith, ap length e, length-append (head_bytes root ++ root) rest, length-append (head_bytes root) root, length-head_bytes root))
