use Rattle.std.proofs.Common.{length, ap, length-append, arith}
use Rattle.sn_times_file.specs.Kept.{time_bytes}
use Rattle.sn_times_file.proofs.Spelled.{length-time_bytes}
use Rattle.sn_times_file.proofs.reading.read_base.Goals as goal

pub returns-then-remaining-lt-TIME_SIZE-clause-only : goal.returns-then-remaining-lt-TIME_SIZE-clause-only
returns-then-remaining-lt-TIME_SIZE-clause-only c = λ time rest is e. absurd (omega (arith, ap length e, length-append (time_bytes time) rest, length-time_bytes time))
