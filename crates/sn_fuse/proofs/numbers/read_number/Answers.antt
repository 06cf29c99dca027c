use Rattle.std.proofs.Common.{[], ◌∷◌, ap, length, arith}
use Rattle.sn_fuse.specs.Body.{Number}
use Rattle.sn_fuse.proofs.Bodies.{whole_size}
use Rattle.sn_fuse.proofs.numbers.read_number.Goals as goal

pub returns-then-remaining-ne8-clause-none : goal.returns-then-remaining-ne8-clause-none
returns-then-remaining-ne8-clause-none c = λ _ number s. absurd (omega (arith, ap length c.new-fields.ensures, whole_size (Number 8 number ∷ []) c.args.body.now s))
