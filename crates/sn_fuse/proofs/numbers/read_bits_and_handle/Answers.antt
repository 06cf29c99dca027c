use Rattle.std.proofs.Common.{[], ◌∷◌, ap, length, arith}
use Rattle.sn_fuse.specs.Body.{Number, Unread}
use Rattle.sn_fuse.proofs.Bodies.{whole_size}
use Rattle.sn_fuse.proofs.numbers.read_bits_and_handle.Goals as goal

pub returns-then-remaining-ne16-clause-none : goal.returns-then-remaining-ne16-clause-none
returns-then-remaining-ne16-clause-none c = λ _ flags handle s. absurd (omega (arith, ap length c.new-fields.ensures, whole_size (Number 4 flags ∷ Unread 4 ∷ Number 8 handle ∷ []) c.args.body.now s))
