-- A change of a kind, by the number of the kind.
use Rattle.std.proofs.Common.{◌≡◌, ◌∙◌, ℕ, List, [], ◌∷◌, ◌++◌, Option, Some, sym, arith}
use Rattle.std.proofs.lemmas.List.{append-nil}
use Rattle.sn_layout.proofs.Fields.{some_some}
use Rattle.sn_limits.specs.declared.kind.Kind.{Kind}
use Rattle.sn_model.specs.declared.change.Change.{Change}
use Rattle.sn_model.specs.declared.change.Change.TheVariants.{Make, AddLink, Remove, Rename, Write, SetSize, SetAttributes}
use Rattle.sn_model.specs.declared.change.Ownership.{Ownership}
use Rattle.sn_record.specs.Payload.{IsSpelled, change_number, fields_bytes, payload_bytes}

pub make_at : (P : Change → Type 0) → ((directory : ℕ) (name : List ℕ) (number : ℕ) (kind : Kind) (o : Ownership) → P (Make directory name number kind o)) → (change : Change) → change_number change ≡ 1 → P change
make_at P h (Make directory name number kind o) e = h directory name number kind o
make_at P h (AddLink directory name number) e = absurd (omega (arith, e))
make_at P h (Remove directory name) e = absurd (omega (arith, e))
make_at P h (Rename old_directory old_name new_directory new_name) e = absurd (omega (arith, e))
make_at P h (Write number offset bytes) e = absurd (omega (arith, e))
make_at P h (SetSize number size) e = absurd (omega (arith, e))
make_at P h (SetAttributes number o) e = absurd (omega (arith, e))

pub link_at : (P : Change → Type 0) → ((directory : ℕ) (name : List ℕ) (number : ℕ) → P (AddLink directory name number)) → (change : Change) → change_number change ≡ 2 → P change
link_at P h (Make directory name number kind o) e = absurd (omega (arith, e))
link_at P h (AddLink directory name number) e = h directory name number
link_at P h (Remove directory name) e = absurd (omega (arith, e))
link_at P h (Rename old_directory old_name new_directory new_name) e = absurd (omega (arith, e))
link_at P h (Write number offset bytes) e = absurd (omega (arith, e))
link_at P h (SetSize number size) e = absurd (omega (arith, e))
link_at P h (SetAttributes number o) e = absurd (omega (arith, e))

pub remove_at : (P : Change → Type 0) → ((directory : ℕ) (name : List ℕ) → P (Remove directory name)) → (change : Change) → change_number change ≡ 3 → P change
remove_at P h (Make directory name number kind o) e = absurd (omega (arith, e))
remove_at P h (AddLink directory name number) e = absurd (omega (arith, e))
remove_at P h (Remove directory name) e = h directory name
remove_at P h (Rename old_directory old_name new_directory new_name) e = absurd (omega (arith, e))
remove_at P h (Write number offset bytes) e = absurd (omega (arith, e))
remove_at P h (SetSize number size) e = absurd (omega (arith, e))
remove_at P h (SetAttributes number o) e = absurd (omega (arith, e))

pub rename_at : (P : Change → Type 0) → ((old_directory : ℕ) (old_name : List ℕ) (new_directory : ℕ) (new_name : List ℕ) → P (Rename old_directory old_name new_directory new_name)) → (change : Change) → change_number change ≡ 4 → P change
rename_at P h (Make directory name number kind o) e = absurd (omega (arith, e))
rename_at P h (AddLink directory name number) e = absurd (omega (arith, e))
rename_at P h (Remove directory name) e = absurd (omega (arith, e))
rename_at P h (Rename old_directory old_name new_directory new_name) e = h old_directory old_name new_directory new_name
rename_at P h (Write number offset bytes) e = absurd (omega (arith, e))
rename_at P h (SetSize number size) e = absurd (omega (arith, e))
rename_at P h (SetAttributes number o) e = absurd (omega (arith, e))

pub write_at : (P : Change → Type 0) → ((number offset : ℕ) (bytes : List ℕ) → P (Write number offset bytes)) → (change : Change) → change_number change ≡ 5 → P change
write_at P h (Make directory name number kind o) e = absurd (omega (arith, e))
write_at P h (AddLink directory name number) e = absurd (omega (arith, e))
write_at P h (Remove directory name) e = absurd (omega (arith, e))
write_at P h (Rename old_directory old_name new_directory new_name) e = absurd (omega (arith, e))
write_at P h (Write number offset bytes) e = h number offset bytes
write_at P h (SetSize number size) e = absurd (omega (arith, e))
write_at P h (SetAttributes number o) e = absurd (omega (arith, e))

pub size_at : (P : Change → Type 0) → ((number size : ℕ) → P (SetSize number size)) → (change : Change) → change_number change ≡ 6 → P change
size_at P h (Make directory name number kind o) e = absurd (omega (arith, e))
size_at P h (AddLink directory name number) e = absurd (omega (arith, e))
size_at P h (Remove directory name) e = absurd (omega (arith, e))
size_at P h (Rename old_directory old_name new_directory new_name) e = absurd (omega (arith, e))
size_at P h (Write number offset bytes) e = absurd (omega (arith, e))
size_at P h (SetSize number size) e = h number size
size_at P h (SetAttributes number o) e = absurd (omega (arith, e))

pub attributes_at : (P : Change → Type 0) → ((number : ℕ) (o : Ownership) → P (SetAttributes number o)) → (change : Change) → change_number change ≡ 7 → P change
attributes_at P h (Make directory name number kind o) e = absurd (omega (arith, e))
attributes_at P h (AddLink directory name number) e = absurd (omega (arith, e))
attributes_at P h (Remove directory name) e = absurd (omega (arith, e))
attributes_at P h (Rename old_directory old_name new_directory new_name) e = absurd (omega (arith, e))
attributes_at P h (Write number offset bytes) e = absurd (omega (arith, e))
attributes_at P h (SetSize number size) e = absurd (omega (arith, e))
attributes_at P h (SetAttributes number o) e = h number o

-- ---- reading

-- bytes of a change's fields, and nothing after them, were read as that change
abbrev pub IsReadAs : List ℕ → Option Change → List ℕ → Change → Type 0
IsReadAs fields read left change = IsSpelled change → fields ≡ fields_bytes change → (read ≡ Some change) × (left ≡ [])

pub nothing_behind : (change : Change) (fields : List ℕ) → fields ≡ fields_bytes change → fields ≡ fields_bytes change ++ []
nothing_behind change fields e = e ∙ sym (append-nil (fields_bytes change))

-- once the first byte was read as a kind, what reads the fields of this kind reads the change
pub kind_read : (kind byte : ℕ) (first : Option ℕ) (payload fields left : List ℕ) (read : Option Change)
    → ((number : ℕ) (rest : List ℕ) → payload ≡ number ∷ rest → (first ≡ Some number) × (fields ≡ rest))
    → first ≡ Some byte → byte ≡ kind
    → ((change : Change) → change_number change ≡ kind → IsReadAs fields read left change)
    → (change : Change) → IsSpelled change → payload ≡ payload_bytes change → (read ≡ Some change) × (left ≡ [])
kind_read kind byte first payload fields left read only was is_kind as_change change fits e =
    let found = only (change_number change) (fields_bytes change) e in
    let same = some_some first byte (change_number change) was found.0 in
    as_change change (sym same ∙ is_kind) fits found.1
