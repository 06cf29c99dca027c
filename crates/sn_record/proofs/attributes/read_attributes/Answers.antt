use Rattle.std.proofs.Common.{◌≡◌, ◌∙◌, ◌++◌, ℕ, List, refl, append_assoc}
use Rattle.sn_layout.specs.Bytes.{number_bytes}
use Rattle.sn_layout.proofs.Fields.{some_some}
use Rattle.sn_model.specs.declared.change.Change.TheVariants.{SetAttributes}
use Rattle.sn_model.specs.declared.change.Ownership.{Ownership}
use Rattle.sn_record.specs.Payload.{fields_bytes, ownership_bytes}
use Rattle.sn_record.proofs.attributes.read_attributes.Goals as goal

-- one field after the other
flat : (number : ℕ) (o : Ownership) (rest : List ℕ) → fields_bytes (SetAttributes number o) ++ rest ≡ number_bytes 2 number ++ (ownership_bytes o ++ rest)
flat number o rest = simp append_assoc

pub returns-clause-only : goal.returns-clause-only
returns-clause-only c = λ number o rest fits e.
    let one = c.try_u16.ensures.only number _ fits.0.0 (e ∙ flat number o rest) in
    let two = c.read_ownership.ensures.only o rest fits.0.1 one.1 in
    let same-number = some_some c.try_u16.result c.in_ok-number.number number c.in_ok-number.was one.0 in
    let same-ownership = some_some c.read_ownership.result c.in_ok-ownership.ownership o c.in_ok-ownership.was two.0 in
    (rw (same-number, same-ownership) refl, two.1)
