use Rattle.std.proofs.Common.{[], ◌∷◌, ap, length, arith}
use Rattle.sn_fuse.specs.Body.{Number, Unread}
use Rattle.sn_fuse.proofs.Bodies.{whole_size}
use Rattle.sn_fuse.proofs.numbers.read_handle.Goals as goal

pub returns-then-remaining-ne24-clause-none : goal.returns-then-remaining-ne24-clause-none
returns-then-remaining-ne24-clause-none c = λ _ handle s. absurd (omega (arith, ap length c.new-fields.ensures, whole_size (Number 8 handle ∷ Unread 16 ∷ []) c.args.body.now s))
