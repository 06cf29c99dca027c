use Rattle.std.proofs.Common.{[], ◌∷◌, ◌∙◌, refl, sym, ap, length, arith}
use Rattle.sn_fuse.specs.Body.{Text, Nothing}
use Rattle.sn_fuse.specs.Operation.{fields_of}
use Rattle.sn_fuse.specs.declared.operation.Op.TheVariants.{Link}
use Rattle.sn_fuse.proofs.Bodies.{peel_number, spelled_size}
use Rattle.sn_fuse.proofs.named.read_link.Goals as goal

pub returns-then-remaining-lt8-clause-none : goal.returns-then-remaining-lt8-clause-none
returns-then-remaining-lt8-clause-none c = λ _ node name s.
    absurd (omega (arith, ap length c.new-fields.ensures, (spelled_size (fields_of (Link node name)) Nothing c.args.body.now s).1))

pub returns-in_err-name-clause-none : goal.returns-in_err-name-clause-none
returns-in_err-name-clause-none c = λ _ node name s.
    let after_1 = (peel_number 8 node c.u64-node.result (Text name ∷ []) Nothing c.args.body.now c.u64-node.new.self (omega arith) (sym c.new-fields.ensures ∙ c.u64-node.ensures.read) s).1 in
    c.in_err-name.ensures.none refl name after_1
