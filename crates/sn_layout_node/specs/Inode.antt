-- An inode and its record of 128 bytes.
use Rattle.std.specs.Prelude.{ℕ, ◌+◌, ◌-◌, ◌%◌, ◌^◌, ◌<◌, ◌≤◌, Bool, ◌&&◌, ◌==◌, if◌then◌else◌, List, [], ◌∷◌, ◌++◌, length, IsTrue, nat_lt, nat_le}
use Rattle.sn_acl.specs.Modes.{mode_bits}
use Rattle.sn_limits.specs.declared.kind.Kind.{Kind}
use Rattle.sn_limits.specs.declared.kind.Kind.TheVariants.{File, Directory}
use Rattle.sn_limits.specs.declared.limits.Limits.{Limits}
use Rattle.sn_layout.specs.Bytes.{number_bytes, numbers_bytes, zeros}
use Rattle.sn_layout.specs.BlockTree.{IsBlockTree, ends_at_size}
use Rattle.sn_layout_acl.specs.Mode.{IsMode, mode_bytes}
use Rattle.sn_layout_node.specs.declared.content.Content.{Content}
use Rattle.sn_layout_node.specs.declared.content.Content.TheVariants.{Inline, Tree}
use Rattle.sn_layout_node.specs.declared.head.Head.{Head}
use Rattle.sn_layout_node.specs.declared.head.HeadNumbers.{HeadNumbers}
use Rattle.sn_layout_node.specs.declared.inode.Inode.{Inode}
use Rattle.sn_layout_node.specs.declared.inode.InodeRecord.{InodeRecord}
use Rattle.sn_layout_node.specs.declared.inode.InodeRecord.TheVariants.{Unused, Used}

abbrev pub kind_number : Kind → ℕ
kind_number File = 1
kind_number Directory = 2

-- S_ISGID is bit 0, S_ISVTX bit 1
abbrev pub flags_number : Bool → Bool → ℕ
flags_number set_gid sticky = (if set_gid then 1 else 0) + (if sticky then 2 else 0)

-- what precedes the content
pub record IsHead (head : Head) : Type 0 where
  pub objects : IsMode head.objects
  pub links : head.links < 256 ^ 2
  pub owner : head.owner < 256 ^ 4
  pub group : head.group < 256 ^ 4
  pub size : head.size < 256 ^ 8
  pub acl_block : head.acl_block < 256 ^ 4

abbrev pub head_bytes : Head → List ℕ
head_bytes h = (kind_number h.kind ∷ flags_number h.bits.set_gid h.bits.sticky ∷ []) ++ mode_bytes h.objects ++ number_bytes 2 h.links ++ zeros 2 ++ number_bytes 4 h.owner ++ number_bytes 4 h.group ++ number_bytes 8 h.size ++ number_bytes 4 h.acl_block ++ zeros 36

-- the widths of its numbers, and those numbers, with a 0 for the zeros between
abbrev pub head_widths : List ℕ
head_widths = 1 ∷ 1 ∷ 2 ∷ 2 ∷ 2 ∷ 4 ∷ 4 ∷ 8 ∷ 4 ∷ []

abbrev pub head_numbers : Head → List ℕ
head_numbers h = kind_number h.kind ∷ flags_number h.bits.set_gid h.bits.sticky ∷ mode_bits h.objects ∷ h.links ∷ 0 ∷ h.owner ∷ h.group ∷ h.size ∷ h.acl_block ∷ []

-- the numbers as they were read, whatever is between
abbrev pub listed : HeadNumbers → List ℕ
listed n = n.kind ∷ n.bits ∷ n.objects ∷ n.links ∷ n.before_owner ∷ n.owner ∷ n.group ∷ n.size ∷ n.acl_block ∷ []

abbrev pub size_of : Content → ℕ
size_of (Inline bytes) = length bytes
size_of (Tree tree) = tree.size

abbrev pub content_bytes : Content → List ℕ
content_bytes (Inline bytes) = bytes ++ zeros (64 - length bytes)
content_bytes (Tree tree) = numbers_bytes 4 tree.pointers

-- A file's tree has more bytes than an inode holds itself, and a directory is made of whole blocks.
abbrev pub is_tree_size : Limits → Kind → ℕ → Bool
is_tree_size limits File size = nat_lt 64 size && nat_le size limits.largest_file
is_tree_size limits Directory size = (size % 4096 == 0) && nat_le size limits.largest_file

-- bytes in the inode are those of a file
abbrev pub IsContent : Limits → Kind → Content → Type 0
IsContent limits File (Inline bytes) = length bytes ≤ 64
IsContent limits Directory (Inline bytes) = ⊥
IsContent limits kind (Tree tree) = IsBlockTree tree × IsTrue (is_tree_size limits kind tree.size) × IsTrue (ends_at_size tree)

-- a directory has one name
abbrev pub are_links : Kind → ℕ → Bool
are_links File links = nat_le links 32767
are_links Directory links = links == 1

pub record IsInode (limits : Limits) (inode : Inode) : Type 0 where
  pub objects : IsMode inode.objects
  pub links : IsTrue (are_links inode.kind inode.links)
  pub owner : inode.owner < 256 ^ 4
  pub group : inode.group < 256 ^ 4
  pub acl_block : inode.acl_block < 256 ^ 4
  pub content : IsContent limits inode.kind inode.content

abbrev pub head_of : Inode → Head
head_of i = record { kind = i.kind; bits = record { set_gid = i.set_gid; sticky = i.sticky }; objects = i.objects; links = i.links; owner = i.owner; group = i.group; size = size_of i.content; acl_block = i.acl_block }

abbrev pub inode_bytes : Inode → List ℕ
inode_bytes inode = head_bytes (head_of inode) ++ content_bytes inode.content

-- an inode that nothing is in is zeros
abbrev pub record_bytes : InodeRecord → List ℕ
record_bytes Unused = zeros 128
record_bytes (Used inode) = inode_bytes inode

abbrev pub IsRecord : Limits → InodeRecord → Type 0
IsRecord limits Unused = Unit {0}
IsRecord limits (Used inode) = IsInode limits inode
