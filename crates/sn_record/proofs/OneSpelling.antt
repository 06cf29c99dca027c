-- No two changes have one spelling.
use Rattle.std.proofs.Common.{◌≡◌, ◌∙◌, ℕ, List, [], ◌∷◌, ◌++◌, refl, sym, ap, append_assoc}
use Rattle.std.proofs.lemmas.List.{append-nil}
use Rattle.sn_acl.specs.declared.entries.Entry.{Entry}
use Rattle.sn_acl.specs.declared.modes.Mode.{Mode}
use Rattle.sn_limits.specs.declared.kind.Kind.{Kind}
use Rattle.sn_model.specs.declared.change.Change.{Change}
use Rattle.sn_model.specs.declared.change.Change.TheVariants.{Make, AddLink, Remove, Rename, Write, SetSize, SetAttributes}
use Rattle.sn_model.specs.declared.change.Ownership.{Ownership}
use Rattle.sn_layout.specs.Bytes.{number_bytes}
use Rattle.sn_layout.proofs.Fields.{same_cons, same_numbers}
use Rattle.sn_layout_acl.specs.Mode.{mode_bytes}
use Rattle.sn_layout_acl.specs.AclBlock.{AreAcls, joined, acls_bytes}
use Rattle.sn_layout_acl.proofs.Spelled.{same_modes, same_acls}
use Rattle.sn_layout_node.specs.Directory.{name_bytes}
use Rattle.sn_layout_node.specs.Inode.{kind_number, flags_number}
use Rattle.sn_layout_node.proofs.Spelled.{same_names, same_bits, same_kinds}
use Rattle.sn_record.specs.Payload.{IsOwnership, IsSpelled, objects_of, named_of, lists_of, ownership_bytes, change_number, fields_bytes, payload_bytes}
use Rattle.sn_record.proofs.ByKind.{make_at, link_at, remove_at, rename_at, write_at, size_at, attributes_at}
use Rattle.sn_record.proofs.Parts.{parts_join, parts_named, parts_mode}

are_acls : (o : Ownership) → IsOwnership o → AreAcls (lists_of o)
are_acls o fits = record { access = parts_named o.acl fits.acl; default = fits.default }

flat_ownership : (o : Ownership) (rest : List ℕ) → ownership_bytes o ++ rest ≡ flags_number o.set_gid o.sticky ∷ (mode_bytes (objects_of o.acl) ++ (number_bytes 4 o.owner ++ (number_bytes 4 o.group ++ (acls_bytes (lists_of o) ++ rest))))
flat_ownership o rest = simp append_assoc

same_owners : (a b : Ownership) (x y : List ℕ) → IsOwnership a → IsOwnership b → ownership_bytes a ++ x ≡ ownership_bytes b ++ y → (a ≡ b) × (x ≡ y)
same_owners a b x y fits-a fits-b e =
    let heads = same_cons (flags_number a.set_gid a.sticky) (flags_number b.set_gid b.sticky) _ _ (sym (flat_ownership a x) ∙ e ∙ flat_ownership b y) in
    let bits = same_bits a.set_gid a.sticky b.set_gid b.sticky heads.0 in
    let mode = same_modes (objects_of a.acl) (objects_of b.acl) _ _ (parts_mode a.acl fits-a.acl) (parts_mode b.acl fits-b.acl) heads.1 in
    let owner = same_numbers 4 a.owner b.owner _ _ fits-a.owner fits-b.owner mode.1 in
    let group = same_numbers 4 a.group b.group _ _ fits-a.group fits-b.group owner.1 in
    let lists = same_acls (lists_of a) (lists_of b) x y (are_acls a fits-a) (are_acls b fits-b) group.1 in
    let acl : a.acl ≡ b.acl = parts_join a.acl fits-a.acl ∙ ap (λ (m : Mode). joined m (named_of a.acl)) mode.0 ∙ ap (λ (r : List Entry). joined (objects_of b.acl) r) lists.0 ∙ sym (parts_join b.acl fits-b.acl) in
    let set_gid = bits.0 in
    let sticky = bits.1 in
    let same-owner = owner.0 in
    let same-group = group.0 in
    let default : a.default_acl ≡ b.default_acl = lists.1 in
    (rw (same-owner, same-group, set_gid, sticky, acl, default) refl, lists.2)

-- ---- changes

same_ends : (a b : List ℕ) → a ≡ b → a ++ [] ≡ b ++ []
same_ends a b e = ap (λ (r : List ℕ). r ++ []) e

flat_make : (directory : ℕ) (name : List ℕ) (number : ℕ) (kind : Kind) (o : Ownership) → fields_bytes (Make directory name number kind o) ++ [] ≡ (number_bytes 2 directory ++ (number_bytes 2 number ++ (kind_number kind ∷ (ownership_bytes o ++ (name_bytes name ++ [])))))
flat_make directory name number kind o = simp append_assoc

same_make : (directory : ℕ) (name : List ℕ) (number : ℕ) (kind : Kind) (o : Ownership) → IsSpelled (Make directory name number kind o) → (b : Change) → change_number b ≡ 1 → IsSpelled b → fields_bytes (Make directory name number kind o) ≡ fields_bytes b → Make directory name number kind o ≡ b
same_make directory name number kind o fits = make_at (λ (b : Change). IsSpelled b → fields_bytes (Make directory name number kind o) ≡ fields_bytes b → Make directory name number kind o ≡ b) (λ directory' name' number' kind' o' fits' e.
    let at-directory = same_numbers 2 directory directory' _ _ fits.0.0 fits'.0.0 (sym (flat_make directory name number kind o) ∙ same_ends _ _ e ∙ flat_make directory' name' number' kind' o') in
    let is-directory : directory ≡ directory' = at-directory.0 in
    let at-number = same_numbers 2 number number' _ _ fits.0.1 fits'.0.1 at-directory.1 in
    let is-number : number ≡ number' = at-number.0 in
    let at-kind = same_cons (kind_number kind) (kind_number kind') _ _ at-number.1 in
    let is-kind : kind ≡ kind' = same_kinds kind kind' at-kind.0 in
    let at-o = same_owners o o' _ _ fits.0.2 fits'.0.2 at-kind.1 in
    let is-o : o ≡ o' = at-o.0 in
    let at-name = same_names name name' _ _ at-o.1 in
    let is-name : name ≡ name' = at-name.0 in
    rw (is-directory, is-number, is-kind, is-o, is-name) refl)

flat_link : (directory : ℕ) (name : List ℕ) (number : ℕ) → fields_bytes (AddLink directory name number) ++ [] ≡ (number_bytes 2 directory ++ (number_bytes 2 number ++ (name_bytes name ++ [])))
flat_link directory name number = simp append_assoc

same_link : (directory : ℕ) (name : List ℕ) (number : ℕ) → IsSpelled (AddLink directory name number) → (b : Change) → change_number b ≡ 2 → IsSpelled b → fields_bytes (AddLink directory name number) ≡ fields_bytes b → AddLink directory name number ≡ b
same_link directory name number fits = link_at (λ (b : Change). IsSpelled b → fields_bytes (AddLink directory name number) ≡ fields_bytes b → AddLink directory name number ≡ b) (λ directory' name' number' fits' e.
    let at-directory = same_numbers 2 directory directory' _ _ fits.0.0 fits'.0.0 (sym (flat_link directory name number) ∙ same_ends _ _ e ∙ flat_link directory' name' number') in
    let is-directory : directory ≡ directory' = at-directory.0 in
    let at-number = same_numbers 2 number number' _ _ fits.0.1 fits'.0.1 at-directory.1 in
    let is-number : number ≡ number' = at-number.0 in
    let at-name = same_names name name' _ _ at-number.1 in
    let is-name : name ≡ name' = at-name.0 in
    rw (is-directory, is-number, is-name) refl)

flat_remove : (directory : ℕ) (name : List ℕ) → fields_bytes (Remove directory name) ++ [] ≡ (number_bytes 2 directory ++ (name_bytes name ++ []))
flat_remove directory name = simp append_assoc

same_remove : (directory : ℕ) (name : List ℕ) → IsSpelled (Remove directory name) → (b : Change) → change_number b ≡ 3 → IsSpelled b → fields_bytes (Remove directory name) ≡ fields_bytes b → Remove directory name ≡ b
same_remove directory name fits = remove_at (λ (b : Change). IsSpelled b → fields_bytes (Remove directory name) ≡ fields_bytes b → Remove directory name ≡ b) (λ directory' name' fits' e.
    let at-directory = same_numbers 2 directory directory' _ _ fits.0 fits'.0 (sym (flat_remove directory name) ∙ same_ends _ _ e ∙ flat_remove directory' name') in
    let is-directory : directory ≡ directory' = at-directory.0 in
    let at-name = same_names name name' _ _ at-directory.1 in
    let is-name : name ≡ name' = at-name.0 in
    rw (is-directory, is-name) refl)

flat_rename : (old_directory : ℕ) (old_name : List ℕ) (new_directory : ℕ) (new_name : List ℕ) → fields_bytes (Rename old_directory old_name new_directory new_name) ++ [] ≡ (number_bytes 2 old_directory ++ (number_bytes 2 new_directory ++ (name_bytes old_name ++ (name_bytes new_name ++ []))))
flat_rename old_directory old_name new_directory new_name = simp append_assoc

same_rename : (old_directory : ℕ) (old_name : List ℕ) (new_directory : ℕ) (new_name : List ℕ) → IsSpelled (Rename old_directory old_name new_directory new_name) → (b : Change) → change_number b ≡ 4 → IsSpelled b → fields_bytes (Rename old_directory old_name new_directory new_name) ≡ fields_bytes b → Rename old_directory old_name new_directory new_name ≡ b
same_rename old_directory old_name new_directory new_name fits = rename_at (λ (b : Change). IsSpelled b → fields_bytes (Rename old_directory old_name new_directory new_name) ≡ fields_bytes b → Rename old_directory old_name new_directory new_name ≡ b) (λ old_directory' old_name' new_directory' new_name' fits' e.
    let at-old_directory = same_numbers 2 old_directory old_directory' _ _ fits.0.0 fits'.0.0 (sym (flat_rename old_directory old_name new_directory new_name) ∙ same_ends _ _ e ∙ flat_rename old_directory' old_name' new_directory' new_name') in
    let is-old_directory : old_directory ≡ old_directory' = at-old_directory.0 in
    let at-new_directory = same_numbers 2 new_directory new_directory' _ _ fits.0.1 fits'.0.1 at-old_directory.1 in
    let is-new_directory : new_directory ≡ new_directory' = at-new_directory.0 in
    let at-old_name = same_names old_name old_name' _ _ at-new_directory.1 in
    let is-old_name : old_name ≡ old_name' = at-old_name.0 in
    let at-new_name = same_names new_name new_name' _ _ at-old_name.1 in
    let is-new_name : new_name ≡ new_name' = at-new_name.0 in
    rw (is-old_directory, is-new_directory, is-old_name, is-new_name) refl)

flat_write : (number : ℕ) (offset : ℕ) (bytes : List ℕ) → fields_bytes (Write number offset bytes) ++ [] ≡ (number_bytes 2 number ++ (number_bytes 8 offset ++ (bytes ++ [])))
flat_write number offset bytes = simp append_assoc

same_write : (number : ℕ) (offset : ℕ) (bytes : List ℕ) → IsSpelled (Write number offset bytes) → (b : Change) → change_number b ≡ 5 → IsSpelled b → fields_bytes (Write number offset bytes) ≡ fields_bytes b → Write number offset bytes ≡ b
same_write number offset bytes fits = write_at (λ (b : Change). IsSpelled b → fields_bytes (Write number offset bytes) ≡ fields_bytes b → Write number offset bytes ≡ b) (λ number' offset' bytes' fits' e.
    let at-number = same_numbers 2 number number' _ _ fits.0.0 fits'.0.0 (sym (flat_write number offset bytes) ∙ same_ends _ _ e ∙ flat_write number' offset' bytes') in
    let is-number : number ≡ number' = at-number.0 in
    let at-offset = same_numbers 8 offset offset' _ _ fits.0.1 fits'.0.1 at-number.1 in
    let is-offset : offset ≡ offset' = at-offset.0 in
    let is-bytes : bytes ≡ bytes' = sym (append-nil bytes) ∙ at-offset.1 ∙ append-nil bytes' in
    rw (is-number, is-offset, is-bytes) refl)

flat_size : (number : ℕ) (size : ℕ) → fields_bytes (SetSize number size) ++ [] ≡ (number_bytes 2 number ++ (number_bytes 8 size ++ []))
flat_size number size = simp append_assoc

same_size : (number : ℕ) (size : ℕ) → IsSpelled (SetSize number size) → (b : Change) → change_number b ≡ 6 → IsSpelled b → fields_bytes (SetSize number size) ≡ fields_bytes b → SetSize number size ≡ b
same_size number size fits = size_at (λ (b : Change). IsSpelled b → fields_bytes (SetSize number size) ≡ fields_bytes b → SetSize number size ≡ b) (λ number' size' fits' e.
    let at-number = same_numbers 2 number number' _ _ fits.0.0 fits'.0.0 (sym (flat_size number size) ∙ same_ends _ _ e ∙ flat_size number' size') in
    let is-number : number ≡ number' = at-number.0 in
    let at-size = same_numbers 8 size size' _ _ fits.0.1 fits'.0.1 at-number.1 in
    let is-size : size ≡ size' = at-size.0 in
    rw (is-number, is-size) refl)

flat_attributes : (number : ℕ) (o : Ownership) → fields_bytes (SetAttributes number o) ++ [] ≡ (number_bytes 2 number ++ (ownership_bytes o ++ []))
flat_attributes number o = simp append_assoc

same_attributes : (number : ℕ) (o : Ownership) → IsSpelled (SetAttributes number o) → (b : Change) → change_number b ≡ 7 → IsSpelled b → fields_bytes (SetAttributes number o) ≡ fields_bytes b → SetAttributes number o ≡ b
same_attributes number o fits = attributes_at (λ (b : Change). IsSpelled b → fields_bytes (SetAttributes number o) ≡ fields_bytes b → SetAttributes number o ≡ b) (λ number' o' fits' e.
    let at-number = same_numbers 2 number number' _ _ fits.0.0 fits'.0.0 (sym (flat_attributes number o) ∙ same_ends _ _ e ∙ flat_attributes number' o') in
    let is-number : number ≡ number' = at-number.0 in
    let at-o = same_owners o o' _ _ fits.0.1 fits'.0.1 at-number.1 in
    let is-o : o ≡ o' = at-o.0 in
    rw (is-number, is-o) refl)

pub one_spelling : (a b : Change) → IsSpelled a → IsSpelled b → payload_bytes a ≡ payload_bytes b → a ≡ b
one_spelling (Make directory name number kind o) b fits-a fits-b e = let heads = same_cons (change_number (Make directory name number kind o)) (change_number b) _ _ e in same_make directory name number kind o fits-a b (sym heads.0) fits-b heads.1
one_spelling (AddLink directory name number) b fits-a fits-b e = let heads = same_cons (change_number (AddLink directory name number)) (change_number b) _ _ e in same_link directory name number fits-a b (sym heads.0) fits-b heads.1
one_spelling (Remove directory name) b fits-a fits-b e = let heads = same_cons (change_number (Remove directory name)) (change_number b) _ _ e in same_remove directory name fits-a b (sym heads.0) fits-b heads.1
one_spelling (Rename old_directory old_name new_directory new_name) b fits-a fits-b e = let heads = same_cons (change_number (Rename old_directory old_name new_directory new_name)) (change_number b) _ _ e in same_rename old_directory old_name new_directory new_name fits-a b (sym heads.0) fits-b heads.1
one_spelling (Write number offset bytes) b fits-a fits-b e = let heads = same_cons (change_number (Write number offset bytes)) (change_number b) _ _ e in same_write number offset bytes fits-a b (sym heads.0) fits-b heads.1
one_spelling (SetSize number size) b fits-a fits-b e = let heads = same_cons (change_number (SetSize number size)) (change_number b) _ _ e in same_size number size fits-a b (sym heads.0) fits-b heads.1
one_spelling (SetAttributes number o) b fits-a fits-b e = let heads = same_cons (change_number (SetAttributes number o)) (change_number b) _ _ e in same_attributes number o fits-a b (sym heads.0) fits-b heads.1
