-- The ACLs of an inode as they are read from its ACL block, whatever its bytes.
use Rattle.std.specs.Prelude.{ℕ, zero, suc, ◌*◌, ◌==◌, if◌then◌else◌, List, [], ◌∷◌, drop, Option, Some, None, slice_index}
use Rattle.byteorder.specs.Endian.{little_number}
use Rattle.sn_acl.specs.declared.entries.Tag.{Tag}
use Rattle.sn_acl.specs.declared.entries.Tag.TheVariants.{UserObj, User, GroupObj, Group, Mask, Other}
use Rattle.sn_acl.specs.declared.entries.Entry.{Entry}
use Rattle.sn_layout_acl.specs.declared.acl_block.AclBlock.{AclBlock}
use Rattle.sn_ondisk.specs.Trees.{Store}

-- the tag of a number, with the user or the group that it may have
abbrev pub tag_in : ℕ → ℕ → Tag
tag_in number id =
    if number == 1 then UserObj else if number == 2 then User id else
    if number == 3 then GroupObj else if number == 4 then Group id else
    if number == 5 then Mask else Other

abbrev pub entry_in : List ℕ → Entry
entry_in bytes = record { tag = tag_in (slice_index bytes 0) (little_number 4 (drop 4 bytes)); permissions = slice_index bytes 1 }

-- n entries of 8 bytes
unfoldable pub entries_in : ℕ → List ℕ → List Entry
entries_in zero bytes = []
entries_in (suc n) bytes = entry_in bytes ∷ entries_in n (drop 8 bytes)

-- no entries are no ACL
abbrev pub acl_of : List Entry → Option (List Entry)
acl_of [] = None
acl_of (e ∷ es) = Some (e ∷ es)

-- the entries of the access ACL that mode bits don't hold, and the default ACL
unfoldable pub acls_in : List ℕ → AclBlock
acls_in block = record {
  access = entries_in (slice_index block 0) (drop 8 block);
  default = acl_of (entries_in (slice_index block 1) (drop (8 * slice_index block 0) (drop 8 block)));
}

abbrev pub no_acls : AclBlock
no_acls = record { access = []; default = None }

-- the ACLs at an inode's pointer, which is 0 where there are none
unfoldable pub acls_at : Store → ℕ → AclBlock
acls_at s block = if block == 0 then no_acls else acls_in (s block)
