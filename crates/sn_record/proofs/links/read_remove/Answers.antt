use Rattle.std.proofs.Common.{◌≡◌, ◌∙◌, ◌++◌, ℕ, List, refl, append_assoc}
use Rattle.sn_layout.specs.Bytes.{number_bytes}
use Rattle.sn_layout.proofs.Fields.{some_some}
use Rattle.sn_layout_node.specs.Directory.{name_bytes}
use Rattle.sn_model.specs.declared.change.Change.TheVariants.{Remove}
use Rattle.sn_record.specs.Payload.{fields_bytes}
use Rattle.sn_record.proofs.links.read_remove.Goals as goal

-- one field after the other
flat : (directory : ℕ) (name rest : List ℕ) → fields_bytes (Remove directory name) ++ rest ≡ number_bytes 2 directory ++ (name_bytes name ++ rest)
flat directory name rest = simp append_assoc

pub returns-clause-only : goal.returns-clause-only
returns-clause-only c = λ directory name rest fits e.
    let one = c.try_u16.ensures.only directory _ fits.0 (e ∙ flat directory name rest) in
    let two = c.in_ok-read_name.ensures.only name rest fits.1 one.1 in
    let same-directory = some_some c.try_u16.result c.in_ok-directory.directory directory c.in_ok-directory.was one.0 in
    let same-name = c.new-name.ensures ∙ two.1 in
    (rw (same-directory, same-name) refl, two.2)
