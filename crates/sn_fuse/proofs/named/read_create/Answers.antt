use Rattle.std.proofs.Common.{[], ◌∷◌, ◌∙◌, refl, sym, ap, length, arith}
use Rattle.sn_fuse.specs.Body.{Number, Unread, Text, Nothing}
use Rattle.sn_fuse.specs.Operation.{fields_of}
use Rattle.sn_fuse.specs.declared.operation.Op.TheVariants.{Create}
use Rattle.sn_fuse.proofs.Bodies.{peel_number, peel_unread, spelled_size}
use Rattle.sn_fuse.proofs.named.read_create.Goals as goal

pub returns-then-remaining-lt16-clause-none : goal.returns-then-remaining-lt16-clause-none
returns-then-remaining-lt16-clause-none c = λ _ flags mode umask name s.
    absurd (omega (arith, ap length c.new-fields.ensures, (spelled_size (fields_of (Create (record { 0 = flags }) mode umask name)) Nothing c.args.body.now s).1))

pub returns-in_err-name-clause-none : goal.returns-in_err-name-clause-none
returns-in_err-name-clause-none c = λ _ flags mode umask name s.
    let after_1 = (peel_number 4 flags c.u32.result (Number 4 mode ∷ Number 4 umask ∷ Unread 4 ∷ Text name ∷ []) Nothing c.args.body.now c.u32.new.self (omega arith) (sym c.new-fields.ensures ∙ c.u32.ensures.read) s).1 in
    let after_2 = (peel_number 4 mode c.u32-mode.result (Number 4 umask ∷ Unread 4 ∷ Text name ∷ []) Nothing c.u32.new.self c.u32-mode.new.self (omega arith) c.u32-mode.ensures.read after_1).1 in
    let after_3 = (peel_number 4 umask c.u32-umask.result (Unread 4 ∷ Text name ∷ []) Nothing c.u32-mode.new.self c.u32-umask.new.self (omega arith) c.u32-umask.ensures.read after_2).1 in
    let after_4 = peel_unread 4 (Text name ∷ []) Nothing c.u32-umask.new.self c.bytes.result.now c.bytes.new.self c.bytes.ensures.count c.bytes.ensures.read after_3 in
    c.in_err-name.ensures.none refl name after_4
