use Rattle.std.proofs.Common.{[], ◌∷◌, ◌∙◌, refl, sym, ap, length, arith}
use Rattle.sn_fuse.specs.Body.{Unread, Text, Nothing}
use Rattle.sn_fuse.specs.Operation.{fields_of}
use Rattle.sn_fuse.specs.declared.operation.Op.TheVariants.{GetXattr}
use Rattle.sn_fuse.proofs.Bodies.{peel_number, peel_unread, spelled_size}
use Rattle.sn_fuse.proofs.named.read_get_xattr.Goals as goal

pub returns-then-remaining-lt8-clause-none : goal.returns-then-remaining-lt8-clause-none
returns-then-remaining-lt8-clause-none c = λ _ size name s.
    absurd (omega (arith, ap length c.new-fields.ensures, (spelled_size (fields_of (GetXattr size name)) Nothing c.args.body.now s).1))

pub returns-in_err-name-clause-none : goal.returns-in_err-name-clause-none
returns-in_err-name-clause-none c = λ _ size name s.
    let after_1 = (peel_number 4 size c.u32-size.result (Unread 4 ∷ Text name ∷ []) Nothing c.args.body.now c.u32-size.new.self (omega arith) (sym c.new-fields.ensures ∙ c.u32-size.ensures.read) s).1 in
    let after_2 = peel_unread 4 (Text name ∷ []) Nothing c.u32-size.new.self c.bytes.result.now c.bytes.new.self c.bytes.ensures.count c.bytes.ensures.read after_1 in
    c.in_err-name.ensures.none refl name after_2
