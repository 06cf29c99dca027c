use Rattle.std.proofs.Common.{ap, length, arith}
use Rattle.sn_fuse.specs.Body.{Anything}
use Rattle.sn_fuse.specs.Operation.{fields_of}
use Rattle.sn_fuse.specs.declared.operation.Op.TheVariants.{Init}
use Rattle.sn_fuse.proofs.Bodies.{spelled_size}
use Rattle.sn_fuse.proofs.sized.read_init.Goals as goal

pub returns-then-remaining-lt16-clause-none : goal.returns-then-remaining-lt16-clause-none
returns-then-remaining-lt16-clause-none c = λ _ major minor readahead flags s.
    absurd (omega (arith, ap length c.new-fields.ensures, (spelled_size (fields_of (Init major minor readahead (record { 0 = flags }))) Anything c.args.body.now s).1))
