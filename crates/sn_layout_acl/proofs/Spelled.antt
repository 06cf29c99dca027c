-- What is spelled alike is one value: of entries and lists of them, of modes and of the ACLs of a node.
use Rattle.std.proofs.Common.{◌≡◌, ◌∙◌, ℕ, List, [], ◌∷◌, ◌++◌, Option, Some, None, length, refl, sym, ap, append_assoc, arith}
use Rattle.std.specs.List.{AllByRecursion}
use Rattle.sn_acl.specs.declared.entries.Tag.{Tag}
use Rattle.sn_acl.specs.declared.entries.Tag.TheVariants.{UserObj, User, GroupObj, Group, Mask, Other}
use Rattle.sn_acl.specs.declared.entries.Entry.{Entry}
use Rattle.sn_acl.specs.declared.modes.Mode.{Mode}
use Rattle.sn_acl.specs.Entries.{qualifier_of}
use Rattle.sn_acl.specs.Modes.{mode_bits}
use Rattle.sn_layout.specs.Bytes.{number_bytes, zeros}
use Rattle.sn_layout.proofs.Fields.{same_cons, same_fronts, same_numbers}
use Rattle.sn_layout_acl.specs.AclEntry.{IsEntry, tag_number, entry_bytes, entries_bytes}
use Rattle.sn_layout_acl.specs.Mode.{IsMode, mode_bytes}
use Rattle.sn_layout_acl.specs.AclBlock.{AreAcls, IsDefault, default_entries, acls_bytes}
use Rattle.sn_layout_acl.specs.declared.acl_block.AclBlock.{AclBlock}
use Rattle.sn_layout_acl.proofs.AclLists.{valid_some, named_entries, default_each}

same_tags : (a b : Tag) → tag_number a ≡ tag_number b → qualifier_of a ≡ qualifier_of b → a ≡ b
same_tags UserObj UserObj e q = refl
same_tags (User n) (User m) e q = ap User q
same_tags GroupObj GroupObj e q = refl
same_tags (Group n) (Group m) e q = ap Group q
same_tags Mask Mask e q = refl
same_tags Other Other e q = refl
same_tags _ _ e q = absurd cc

same_entry : (a b : Entry) (x y : List ℕ) → IsEntry a → IsEntry b → entry_bytes a ++ x ≡ entry_bytes b ++ y → (a ≡ b) × (x ≡ y)
same_entry a b x y fits-a fits-b e =
    let tags = same_cons (tag_number a.tag) (tag_number b.tag) _ _ e in
    let rights = same_cons a.permissions b.permissions _ _ tags.1 in
    let flat-a : (zeros 2 ++ number_bytes 4 (qualifier_of a.tag)) ++ x ≡ zeros 2 ++ (number_bytes 4 (qualifier_of a.tag) ++ x) = append_assoc (zeros 2) (number_bytes 4 (qualifier_of a.tag)) x in
    let flat-b : (zeros 2 ++ number_bytes 4 (qualifier_of b.tag)) ++ y ≡ zeros 2 ++ (number_bytes 4 (qualifier_of b.tag) ++ y) = append_assoc (zeros 2) (number_bytes 4 (qualifier_of b.tag)) y in
    let blank = same_fronts (zeros 2) (zeros 2) _ _ refl (sym flat-a ∙ rights.1 ∙ flat-b) in
    let numbers = same_numbers 4 (qualifier_of a.tag) (qualifier_of b.tag) x y fits-a.qualifier fits-b.qualifier blank.1 in
    let tag = same_tags a.tag b.tag tags.0 numbers.0 in
    let permissions = rights.0 in
    (rw (tag, permissions) refl, numbers.1)

pub same_entries : (a b : List Entry) (x y : List ℕ) → length a ≡ length b → AllByRecursion IsEntry a → AllByRecursion IsEntry b → entries_bytes a ++ x ≡ entries_bytes b ++ y → (a ≡ b) × (x ≡ y)
same_entries [] [] x y len fits-a fits-b e = (refl, e)
same_entries [] (q ∷ b) x y len fits-a fits-b e = absurd (omega (arith, len))
same_entries (p ∷ a) [] x y len fits-a fits-b e = absurd (omega (arith, len))
same_entries (p ∷ a) (q ∷ b) x y len fits-a fits-b e =
    let flat : entry_bytes p ++ (entries_bytes a ++ x) ≡ entry_bytes q ++ (entries_bytes b ++ y) = sym (append_assoc (entry_bytes p) (entries_bytes a) x) ∙ e ∙ append_assoc (entry_bytes q) (entries_bytes b) y in
    let first = same_entry p q (entries_bytes a ++ x) (entries_bytes b ++ y) fits-a.0 fits-b.0 flat in
    let others = same_entries a b x y (omega (arith, len)) fits-a.1 fits-b.1 first.1 in
    (ap (λ (r : Entry). r ∷ a) first.0 ∙ ap (λ (r : List Entry). q ∷ r) others.0, others.1)

pub same_modes : (a b : Mode) (x y : List ℕ) → IsMode a → IsMode b → mode_bytes a ++ x ≡ mode_bytes b ++ y → (a ≡ b) × (x ≡ y)
same_modes a b x y fits-a fits-b e =
    let bits = same_numbers 2 (mode_bits a) (mode_bits b) x y (omega (arith, fits-a.owner, fits-a.group, fits-a.other)) (omega (arith, fits-b.owner, fits-b.group, fits-b.other)) e in
    let owner : a.owner ≡ b.owner = omega (arith, bits.0, fits-a.owner, fits-a.group, fits-a.other, fits-b.owner, fits-b.group, fits-b.other) in
    let group : a.group ≡ b.group = omega (arith, bits.0, fits-a.owner, fits-a.group, fits-a.other, fits-b.owner, fits-b.group, fits-b.other) in
    let other : a.other ≡ b.other = omega (arith, bits.0, owner, group) in
    (rw (owner, group, other) refl, bits.1)

same_defaults : (a b : Option (List Entry)) → IsDefault a → IsDefault b → default_entries a ≡ default_entries b → a ≡ b
same_defaults None None fits-a fits-b e = refl
same_defaults None (Some b) fits-a fits-b e = absurd (omega (arith, ap length e, valid_some b fits-b))
same_defaults (Some a) None fits-a fits-b e = absurd (omega (arith, ap length e, valid_some a fits-a))
same_defaults (Some a) (Some b) fits-a fits-b e = ap Some e

pub same_acls : (a b : AclBlock) (x y : List ℕ) → AreAcls a → AreAcls b → acls_bytes a ++ x ≡ acls_bytes b ++ y → (a.access ≡ b.access) × (a.default ≡ b.default) × (x ≡ y)
same_acls a b x y fits-a fits-b e =
    let access = same_cons (length a.access) (length b.access) _ _ e in
    let default = same_cons (length (default_entries a.default)) (length (default_entries b.default)) _ _ access.1 in
    let flat : (acls : AclBlock) (rest : List ℕ) → (entries_bytes acls.access ++ entries_bytes (default_entries acls.default)) ++ rest ≡ entries_bytes acls.access ++ (entries_bytes (default_entries acls.default) ++ rest) = λ acls rest. append_assoc (entries_bytes acls.access) (entries_bytes (default_entries acls.default)) rest in
    let first = same_entries a.access b.access _ _ access.0 (named_entries a.access fits-a.access) (named_entries b.access fits-b.access) (sym (flat a x) ∙ default.1 ∙ flat b y) in
    let second = same_entries (default_entries a.default) (default_entries b.default) x y default.0 (default_each a.default fits-a.default) (default_each b.default fits-b.default) first.1 in
    (first.0, same_defaults a.default b.default fits-a.default fits-b.default second.0, second.1)
