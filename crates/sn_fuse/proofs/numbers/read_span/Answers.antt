use Rattle.std.proofs.Common.{ap, length, arith}
use Rattle.sn_fuse.specs.Operation.{span_fields}
use Rattle.sn_fuse.proofs.Bodies.{whole_size}
use Rattle.sn_fuse.proofs.numbers.read_span.Goals as goal

pub returns-then-remaining-ne40-clause-none : goal.returns-then-remaining-ne40-clause-none
returns-then-remaining-ne40-clause-none c = λ _ span s. absurd (omega (arith, ap length c.new-fields.ensures, whole_size (span_fields span) c.args.body.now s))
