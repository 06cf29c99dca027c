-- Inodes as they are read from the inode file, whatever its bytes.
use Rattle.std.specs.Prelude.{ℕ, ◌*◌, ◌/◌, ◌%◌, Bool, ◌&&◌, ◌==◌, if◌then◌else◌, List, take, drop, Option, Some, None, nat_lt, nat_le, slice_index}
use Rattle.std.specs.Option.{option_map}
use Rattle.byteorder.specs.Endian.{little_number}
use Rattle.sn_acl.specs.declared.modes.Mode.{Mode}
use Rattle.sn_limits.specs.declared.kind.Kind.{Kind}
use Rattle.sn_limits.specs.declared.kind.Kind.TheVariants.{File, Directory}
use Rattle.sn_layout.specs.declared.tree.BlockTree.{BlockTree}
use Rattle.sn_layout_node.specs.declared.content.Content.{Content}
use Rattle.sn_layout_node.specs.declared.content.Content.TheVariants.{Inline, Tree}
use Rattle.sn_layout_node.specs.declared.inode.Inode.{Inode}
use Rattle.sn_ondisk.specs.Blocks.{numbers_in}
use Rattle.sn_ondisk.specs.Trees.{Store, data_block}

-- the number of n bytes at an offset of a record
abbrev pub number_at : List ℕ → ℕ → ℕ → ℕ
number_at record_bytes at n = little_number n (drop at record_bytes)

-- 1 is a file, 2 a directory, and any other number unused
abbrev pub kind_of : ℕ → Option Kind
kind_of number = if number == 1 then Some File else (if number == 2 then Some Directory else None)

-- three bits for each class
abbrev pub mode_in : ℕ → Mode
mode_in bits = record { owner = (bits / 64) % 8; group = (bits / 8) % 8; other = bits % 8 }

abbrev pub size_in : List ℕ → ℕ
size_in bytes = number_at bytes 16 8

abbrev pub tree_in : List ℕ → BlockTree
tree_in bytes = record { size = size_in bytes; pointers = numbers_in 16 (drop 64 bytes) }

-- a file of at most 64 bytes has them in its record
abbrev pub content_in : Kind → List ℕ → Content
content_in File bytes = if nat_le (size_in bytes) 64 then Inline (take (size_in bytes) (drop 64 bytes)) else Tree (tree_in bytes)
content_in Directory bytes = Tree (tree_in bytes)

-- the fields of a record of this kind
unfoldable pub inode_in : List ℕ → Kind → Inode
inode_in bytes kind = record {
  kind = kind;
  set_gid = (slice_index bytes 1 % 2) == 1;
  sticky = ((slice_index bytes 1 / 2) % 2) == 1;
  objects = mode_in (number_at bytes 2 2);
  links = number_at bytes 4 2;
  owner = number_at bytes 8 4;
  group = number_at bytes 12 4;
  acl_block = number_at bytes 24 4;
  content = content_in kind bytes;
}

-- the inode of a record, none where it is unused
unfoldable pub inode_of : List ℕ → Option Inode
inode_of bytes = option_map (inode_in bytes) (kind_of (slice_index bytes 0))

-- the record of a number: each block of the inode file has 32, of 128 bytes each
unfoldable pub record_at : Store → BlockTree → ℕ → List ℕ
record_at s inodes number = take 128 (drop (128 * (number % 32)) (data_block s inodes (number / 32)))

-- whether a node can have the number: from the root's on, as many as the inode file has records
abbrev pub is_number : BlockTree → ℕ → Bool
is_number inodes number = nat_le 2 number && nat_lt number (inodes.size / 128)

-- the inode of a number, none where no node has it
unfoldable pub inode_at : Store → BlockTree → ℕ → Option Inode
inode_at s inodes number = if is_number inodes number then inode_of (record_at s inodes number) else None
