use Rattle.std.proofs.Common.{[], ◌∷◌, ◌∙◌, refl, sym, ap, length, arith}
use Rattle.sn_fuse.specs.Body.{Number, Text, Nothing}
use Rattle.sn_fuse.specs.Operation.{fields_of}
use Rattle.sn_fuse.specs.declared.operation.Op.TheVariants.{Mkdir}
use Rattle.sn_fuse.proofs.Bodies.{peel_number, spelled_size}
use Rattle.sn_fuse.proofs.named.read_mkdir.Goals as goal

pub returns-then-remaining-lt8-clause-none : goal.returns-then-remaining-lt8-clause-none
returns-then-remaining-lt8-clause-none c = λ _ mode umask name s.
    absurd (omega (arith, ap length c.new-fields.ensures, (spelled_size (fields_of (Mkdir mode umask name)) Nothing c.args.body.now s).1))

pub returns-in_err-name-clause-none : goal.returns-in_err-name-clause-none
returns-in_err-name-clause-none c = λ _ mode umask name s.
    let after_1 = (peel_number 4 mode c.u32-mode.result (Number 4 umask ∷ Text name ∷ []) Nothing c.args.body.now c.u32-mode.new.self (omega arith) (sym c.new-fields.ensures ∙ c.u32-mode.ensures.read) s).1 in
    let after_2 = (peel_number 4 umask c.u32-umask.result (Text name ∷ []) Nothing c.u32-mode.new.self c.u32-umask.new.self (omega arith) c.u32-umask.ensures.read after_1).1 in
    c.in_err-name.ensures.none refl name after_2
