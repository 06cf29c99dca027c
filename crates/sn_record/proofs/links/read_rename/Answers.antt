use Rattle.std.proofs.Common.{◌≡◌, ◌∙◌, ◌++◌, ℕ, List, refl, append_assoc}
use Rattle.sn_layout.specs.Bytes.{number_bytes}
use Rattle.sn_layout.proofs.Fields.{some_some}
use Rattle.sn_layout_node.specs.Directory.{name_bytes}
use Rattle.sn_model.specs.declared.change.Change.TheVariants.{Rename}
use Rattle.sn_record.specs.Payload.{fields_bytes}
use Rattle.sn_record.proofs.links.read_rename.Goals as goal

-- one field after the other
flat : (old_directory new_directory : ℕ) (old_name new_name rest : List ℕ)
    → fields_bytes (Rename old_directory old_name new_directory new_name) ++ rest ≡ number_bytes 2 old_directory ++ (number_bytes 2 new_directory ++ (name_bytes old_name ++ (name_bytes new_name ++ rest)))
flat old_directory new_directory old_name new_name rest = simp append_assoc

pub returns-clause-only : goal.returns-clause-only
returns-clause-only c = λ old_directory new_directory old_name new_name rest fits e.
    let one = c.try_u16.ensures.only old_directory _ fits.0.0 (e ∙ flat old_directory new_directory old_name new_name rest) in
    let two = c.try_u16-2.ensures.only new_directory _ fits.0.1 one.1 in
    let three = c.in_ok-read_name.ensures.only old_name _ fits.1.0 two.1 in
    let four = c.in_ok-read_name-2.ensures.only new_name rest fits.1.1 three.2 in
    let same-old_directory = some_some c.try_u16.result c.in_ok-old_directory.old_directory old_directory c.in_ok-old_directory.was one.0 in
    let same-new_directory = some_some c.try_u16-2.result c.in_ok-new_directory.new_directory new_directory c.in_ok-new_directory.was two.0 in
    let same-old_name = c.new-old_name.ensures ∙ three.1 in
    let same-new_name = c.new-new_name.ensures ∙ four.1 in
    (rw (same-old_directory, same-new_directory, same-old_name, same-new_name) refl, four.2)
