-- How many bytes a payload has.
use Rattle.std.proofs.Common.{◌≡◌, ℕ, ◌+◌, ◌*◌, ◌≤◌, List, ◌∷◌, ◌++◌, length, length-append, arith}
use Rattle.std.specs.Prelude.{IsTrue}
use Rattle.std.proofs.lemmas.Bool.{leb-true}
use Rattle.sn_acl.proofs.ModeLemmas.{both}
use Rattle.sn_limits.specs.Names.{is_name, is_name_spelled, has_name_length}
use Rattle.sn_model.specs.declared.change.Change.{Change}
use Rattle.sn_model.specs.declared.change.Change.TheVariants.{Make, AddLink, Remove, Rename, Write, SetSize, SetAttributes}
use Rattle.sn_model.specs.declared.change.Ownership.{Ownership}
use Rattle.sn_layout.specs.Bytes.{number_bytes}
use Rattle.sn_layout.proofs.Fields.{length-number_bytes}
use Rattle.sn_layout_acl.specs.AclEntry.{entries_bytes}
use Rattle.sn_layout_acl.specs.AclBlock.{default_entries, acls_bytes}
use Rattle.sn_layout_acl.specs.Mode.{mode_bytes}
use Rattle.sn_layout_acl.proofs.AclLists.{named_short, default_short}
use Rattle.sn_layout_acl.proofs.EntryLists.{length-entries}
use Rattle.sn_layout_acl.specs.declared.acl_block.AclBlock.{AclBlock}
use Rattle.sn_acl.specs.Modes.{mode_bits}
use Rattle.sn_layout_node.specs.Directory.{name_bytes}
use Rattle.sn_layout_node.specs.Inode.{kind_number}
use Rattle.sn_record.specs.Payload.{IsOwnership, IsSpelled, objects_of, named_of, lists_of, ownership_bytes, fields_bytes}
use Rattle.sn_record.specs.Sizes.{entries_of, fields_size}
use Rattle.sn_record.proofs.Parts.{parts_named}

length-acls : (acls : AclBlock) → length (acls_bytes acls) ≡ 2 + 8 * (length acls.access + length (default_entries acls.default))
length-acls acls =
    omega (arith, length-append (length acls.access ∷ length (default_entries acls.default) ∷ entries_bytes acls.access) (entries_bytes (default_entries acls.default)), length-entries acls.access, length-entries (default_entries acls.default))

pub length-ownership : (o : Ownership) → length (ownership_bytes o) ≡ 13 + 8 * entries_of o
length-ownership o =
    let rights = mode_bytes (objects_of o.acl) in
    let owner = number_bytes 4 o.owner in
    let group = number_bytes 4 o.group in
    omega (arith, length-append (rights ++ owner ++ group) (acls_bytes (lists_of o)), length-append (rights ++ owner) group, length-append rights owner, length-number_bytes 2 (mode_bits (objects_of o.acl)), length-number_bytes 4 o.owner, length-number_bytes 4 o.group, length-acls (lists_of o))

pub length-fields : (change : Change) → length (fields_bytes change) ≡ fields_size change
length-fields (Make directory name number kind o) =
    let first = number_bytes 2 directory in
    let second = number_bytes 2 number in
    let third : List ℕ = kind_number kind ∷ ownership_bytes o in
    omega (arith, length-append (first ++ second ++ third) (name_bytes name), length-append (first ++ second) third, length-append first second, length-number_bytes 2 directory, length-number_bytes 2 number, length-ownership o)
length-fields (AddLink directory name number) =
    omega (arith, length-append (number_bytes 2 directory ++ number_bytes 2 number) (name_bytes name), length-append (number_bytes 2 directory) (number_bytes 2 number), length-number_bytes 2 directory, length-number_bytes 2 number)
length-fields (Remove directory name) = omega (arith, length-append (number_bytes 2 directory) (name_bytes name), length-number_bytes 2 directory)
length-fields (Rename old_directory old_name new_directory new_name) =
    let first = number_bytes 2 old_directory in
    let second = number_bytes 2 new_directory in
    omega (arith, length-append (first ++ second ++ name_bytes old_name) (name_bytes new_name), length-append (first ++ second) (name_bytes old_name), length-append first second, length-number_bytes 2 old_directory, length-number_bytes 2 new_directory)
length-fields (Write number offset bytes) =
    omega (arith, length-append (number_bytes 2 number ++ number_bytes 8 offset) bytes, length-append (number_bytes 2 number) (number_bytes 8 offset), length-number_bytes 2 number, length-number_bytes 8 offset)
length-fields (SetSize number size) = omega (arith, length-append (number_bytes 2 number) (number_bytes 8 size), length-number_bytes 2 number, length-number_bytes 8 size)
length-fields (SetAttributes number o) = omega (arith, length-append (number_bytes 2 number) (ownership_bytes o), length-number_bytes 2 number, length-ownership o)

name_short : (name : List ℕ) → IsTrue (is_name name) → length name ≤ 255
name_short name h = leb-true (length name) 255 (both (is_name_spelled name) (has_name_length name) h).1

few_entries : (o : Ownership) → IsOwnership o → entries_of o ≤ 69
few_entries o fits = omega (arith, named_short (named_of o.acl) (parts_named o.acl fits.acl), default_short o.default_acl fits.default)

pub fields_most : (change : Change) → IsSpelled change → fields_size change ≤ 65546
fields_most (Make directory name number kind o) fits = omega (arith, few_entries o fits.0.2, name_short name fits.1)
fields_most (AddLink directory name number) fits = omega (arith, name_short name fits.1)
fields_most (Remove directory name) fits = omega (arith, name_short name fits.1)
fields_most (Rename old_directory old_name new_directory new_name) fits = omega (arith, name_short old_name fits.1.0, name_short new_name fits.1.1)
fields_most (Write number offset bytes) fits = omega (arith, fits.1.1)
fields_most (SetSize number size) fits = omega arith
fields_most (SetAttributes number o) fits = omega (arith, few_entries o fits.0.1)
