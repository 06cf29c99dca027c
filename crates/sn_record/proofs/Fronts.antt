-- What precedes the two lists of an ownership.
use Rattle.std.proofs.Common.{◌≡◌, ◌∙◌, ℕ, ◌<◌, List, ◌∷◌, ◌++◌, drop, sym, append_assoc, arith}
use Rattle.sn_acl.specs.Modes.{mode_bits}
use Rattle.sn_layout.specs.Records.{numbers_then, AreOfWidths}
use Rattle.sn_layout.proofs.Records.{same_records, byte_number}
use Rattle.sn_layout_acl.specs.AclBlock.{AreAcls, acls_bytes}
use Rattle.sn_layout_node.specs.Inode.{flags_number}
use Rattle.sn_layout_node.proofs.Heads.{bits_fit}
use Rattle.sn_model.specs.declared.change.Ownership.{Ownership}
use Rattle.sn_record.specs.declared.ownership.Front.{Front}
use Rattle.sn_record.specs.Payload.{IsOwnership, objects_of, lists_of, ownership_bytes, front_widths, front_numbers, listed}
use Rattle.sn_record.proofs.Parts.{parts_named, parts_mode}

pub are_acls : (o : Ownership) → IsOwnership o → AreAcls (lists_of o)
are_acls o fits = record { access = parts_named o.acl fits.acl; default = fits.default }

-- the numbers, and after them the lists
pub front_flat : (o : Ownership) (rest : List ℕ) → ownership_bytes o ++ rest ≡ numbers_then front_widths (front_numbers o) (acls_bytes (lists_of o) ++ rest)
front_flat o rest =
    let bits = flags_number o.set_gid o.sticky in
    let others = numbers_then (drop 1 front_widths) (drop 1 (front_numbers o)) (acls_bytes (lists_of o) ++ rest) in
    let flat : ownership_bytes o ++ rest ≡ bits ∷ others = simp append_assoc in
    flat ∙ sym (byte_number bits others (bits_fit o.set_gid o.sticky))

numbers_fit : (o : Ownership) → IsOwnership o → AreOfWidths front_widths (front_numbers o)
numbers_fit o fits =
    let mode = parts_mode o.acl fits.acl in
    let rights : mode_bits (objects_of o.acl) < 65536 = omega (arith, mode.owner, mode.group, mode.other) in
    (bits_fit o.set_gid o.sticky, (rights, (fits.owner, (fits.group, tt))))

-- what was read of an ownership that is spelled
pub front_spelled : (o : Ownership) (n : Front) (old left rest : List ℕ) → AreOfWidths front_widths (listed n) → old ≡ numbers_then front_widths (listed n) left
    → IsOwnership o → old ≡ ownership_bytes o ++ rest → (listed n ≡ front_numbers o) × (left ≡ acls_bytes (lists_of o) ++ rest)
front_spelled o n old left rest fits read is e =
    same_records front_widths (listed n) (front_numbers o) left (acls_bytes (lists_of o) ++ rest) fits (numbers_fit o is) (sym read ∙ e ∙ front_flat o rest)
