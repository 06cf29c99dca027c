use Rattle.std.proofs.Common.{[], ◌∷◌, ◌∙◌, refl, sym, ap, length, arith}
use Rattle.sn_fuse.specs.Body.{Number, Unread, Text, Nothing}
use Rattle.sn_fuse.specs.Operation.{fields_of}
use Rattle.sn_fuse.specs.declared.operation.Op.TheVariants.{Rename2}
use Rattle.sn_fuse.proofs.Bodies.{peel_number, peel_unread, spelled_size}
use Rattle.sn_fuse.proofs.named.read_rename2.Goals as goal

pub returns-then-remaining-lt16-clause-none : goal.returns-then-remaining-lt16-clause-none
returns-then-remaining-lt16-clause-none c = λ _ directory flags old_name new_name s.
    absurd (omega (arith, ap length c.new-fields.ensures, (spelled_size (fields_of (Rename2 directory (record { 0 = flags }) old_name new_name)) Nothing c.args.body.now s).1))

pub returns-in_err-old_name-clause-none : goal.returns-in_err-old_name-clause-none
returns-in_err-old_name-clause-none c = λ _ directory flags old_name new_name s.
    let after_1 = (peel_number 8 directory c.u64-directory.result (Number 4 flags ∷ Unread 4 ∷ Text old_name ∷ Text new_name ∷ []) Nothing c.args.body.now c.u64-directory.new.self (omega arith) (sym c.new-fields.ensures ∙ c.u64-directory.ensures.read) s).1 in
    let after_2 = (peel_number 4 flags c.u32.result (Unread 4 ∷ Text old_name ∷ Text new_name ∷ []) Nothing c.u64-directory.new.self c.u32.new.self (omega arith) c.u32.ensures.read after_1).1 in
    let after_3 = peel_unread 4 (Text old_name ∷ Text new_name ∷ []) Nothing c.u32.new.self c.bytes.result.now c.bytes.new.self c.bytes.ensures.count c.bytes.ensures.read after_2 in
    c.in_err-old_name.ensures.none refl old_name new_name after_3
