use Rattle.std.proofs.Common.{◌∷◌, ◌++◌, List, Option, subst}
use Rattle.sn_acl.specs.declared.entries.Entry.{Entry}
use Rattle.sn_acl.specs.declared.modes.Mode.{Mode}
use Rattle.sn_layout.specs.Bytes.{Puts, number_bytes}
use Rattle.sn_layout.proofs.Fields.{puts_then}
use Rattle.sn_layout_acl.specs.Mode.{mode_bytes}
use Rattle.sn_layout_acl.specs.AclBlock.{acls_bytes}
use Rattle.sn_layout_node.specs.Inode.{flags_number}
use Rattle.sn_record.specs.Payload.{named_of}
use Rattle.sn_record.proofs.ownership.put_ownership.Goals as goal

pub returns-clause-bytes : goal.returns-clause-bytes
returns-clause-bytes c =
    let o = c.args.ownership.now in
    let parts = c.parts_of-parts.result in
    let P : Mode → List Entry → Option (List Entry) → Type 0 = λ m a d. Puts c.args.block.now c.put_lists.new.block c.args.at c.put_lists.result (flags_number o.set_gid o.sticky ∷ (mode_bytes m ++ number_bytes 4 o.owner ++ number_bytes 4 o.group ++ acls_bytes (record { access = a; default = d }))) in
    let rights = puts_then _ _ _ _ _ _ _ _ c.put_special_bits-at.ensures c.put_mode-at.ensures.bytes in
    let owner = puts_then _ _ _ _ _ _ _ _ rights c.put_u32-at.ensures.bytes in
    let group = puts_then _ _ _ _ _ _ _ _ owner c.put_u32-at-2.ensures.bytes in
    let all : P parts.objects parts.access c.copy_of.result = puts_then _ _ _ _ _ _ _ _ group c.put_lists.ensures.bytes in
    let default : P parts.objects parts.access o.default_acl = subst (λ (d : Option (List Entry)). P parts.objects parts.access d) c.copy_of.ensures all in
    let access : P parts.objects (named_of o.acl) o.default_acl = subst (λ (a : List Entry). P parts.objects a o.default_acl) c.parts_of-parts.ensures.access default in
    subst (λ (m : Mode). P m (named_of o.acl) o.default_acl) c.parts_of-parts.ensures.objects access
