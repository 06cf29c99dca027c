use Rattle.std.proofs.Common.{ap, length, arith}
use Rattle.sn_fuse.specs.Body.{Data}
use Rattle.sn_fuse.specs.Operation.{fields_of}
use Rattle.sn_fuse.specs.declared.operation.Op.TheVariants.{Write}
use Rattle.sn_fuse.proofs.Bodies.{spelled_size}
use Rattle.sn_fuse.proofs.sized.read_write.Goals as goal

pub returns-then-remaining-lt40-clause-none : goal.returns-then-remaining-lt40-clause-none
returns-then-remaining-lt40-clause-none c = λ _ handle offset flags bytes s.
    absurd (omega (arith, ap length c.new-fields.ensures, (spelled_size (fields_of (Write handle offset flags bytes)) (Data bytes) c.args.body.now s).1))
