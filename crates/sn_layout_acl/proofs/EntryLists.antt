-- How many bytes entries are.
use Rattle.std.proofs.Common.{◌≡◌, ◌*◌, List, [], ◌∷◌, ◌++◌, length, ap, length-append, arith}
use Rattle.std.proofs.lemmas.List.Concat.{flat_map-cons}
use Rattle.sn_acl.specs.declared.entries.Entry.{Entry}
use Rattle.sn_acl.specs.Entries.{qualifier_of}
use Rattle.sn_layout.specs.Bytes.{number_bytes, zeros}
use Rattle.sn_layout.proofs.Fields.{length-number_bytes, length-zeros}
use Rattle.sn_layout_acl.specs.AclEntry.{tag_number, entry_bytes, entries_bytes}

length-entry : (e : Entry) → length (entry_bytes e) ≡ 8
length-entry e =
    omega (arith, length-append ((tag_number e.tag ∷ e.permissions ∷ []) ++ zeros 2) (number_bytes 4 (qualifier_of e.tag)), length-append (tag_number e.tag ∷ e.permissions ∷ []) (zeros 2), length-zeros 2, length-number_bytes 4 (qualifier_of e.tag))

pub length-entries : (es : List Entry) → length (entries_bytes es) ≡ 8 * length es
length-entries [] = omega arith
length-entries (e ∷ es) = omega (arith, length-entry e, length-entries es, ap length (flat_map-cons entry_bytes e es), length-append (entry_bytes e) (entries_bytes es))
