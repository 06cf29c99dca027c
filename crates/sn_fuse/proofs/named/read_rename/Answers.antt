use Rattle.std.proofs.Common.{[], ◌∷◌, ◌∙◌, refl, sym, ap, length, arith}
use Rattle.sn_fuse.specs.Body.{Text, Nothing}
use Rattle.sn_fuse.specs.Operation.{fields_of}
use Rattle.sn_fuse.specs.declared.operation.Op.TheVariants.{Rename}
use Rattle.sn_fuse.proofs.Bodies.{peel_number, spelled_size}
use Rattle.sn_fuse.proofs.named.read_rename.Goals as goal

pub returns-then-remaining-lt8-clause-none : goal.returns-then-remaining-lt8-clause-none
returns-then-remaining-lt8-clause-none c = λ _ directory old_name new_name s.
    absurd (omega (arith, ap length c.new-fields.ensures, (spelled_size (fields_of (Rename directory old_name new_name)) Nothing c.args.body.now s).1))

pub returns-in_err-old_name-clause-none : goal.returns-in_err-old_name-clause-none
returns-in_err-old_name-clause-none c = λ _ directory old_name new_name s.
    let after_1 = (peel_number 8 directory c.u64-directory.result (Text old_name ∷ Text new_name ∷ []) Nothing c.args.body.now c.u64-directory.new.self (omega arith) (sym c.new-fields.ensures ∙ c.u64-directory.ensures.read) s).1 in
    c.in_err-old_name.ensures.none refl old_name new_name after_1
