-- What an inode says of its node.
use Rattle.std.specs.Prelude.{ℕ, Bool, false, ◌==◌, List, [], Option, None, Some}
use Rattle.sn_acl.specs.declared.entries.Entry.{Entry}
use Rattle.sn_layout.specs.declared.tree.BlockTree.{BlockTree}
use Rattle.sn_layout_acl.specs.AclBlock.{joined}
use Rattle.sn_layout_node.specs.Directory.{Link}
use Rattle.sn_layout_node.specs.Inode.{size_of}
use Rattle.sn_layout_node.specs.declared.content.Content.{Content}
use Rattle.sn_layout_node.specs.declared.content.Content.TheVariants.{Inline, Tree}
use Rattle.sn_layout_node.specs.declared.inode.Inode.{Inode}
use Rattle.sn_limits.specs.declared.kind.Kind.{Kind}
use Rattle.sn_limits.specs.declared.kind.Kind.TheVariants.{File, Directory}
use Rattle.sn_walk.specs.declared.view.Attributes.{Attributes}
use Rattle.sn_image.specs.Contents.{bytes_of}
use Rattle.sn_image.specs.Names.{names_of}
use Rattle.sn_ondisk.specs.Trees.{Store}

-- the bytes of a directory are its names, and count as none
abbrev pub shown_size : Kind → ℕ → ℕ
shown_size File size = size
shown_size Directory size = 0

-- with the entries of the access ACL that mode bits don't hold
abbrev pub attributes_in : Inode → List Entry → Attributes
attributes_in inode access = record {
  kind = inode.kind;
  set_gid = inode.set_gid;
  sticky = inode.sticky;
  owner = inode.owner;
  group = inode.group;
  acl = joined inode.objects access;
  links = inode.links;
  size = shown_size inode.kind (size_of inode.content);
}

-- whether no link is counted to a file
abbrev pub is_unlinked : Kind → ℕ → Bool
is_unlinked File links = links == 0
is_unlinked Directory links = false

-- the tree that a directory has its names in; a file has none
abbrev pub names_tree : Kind → Content → Option BlockTree
names_tree File content = None
names_tree Directory (Inline bytes) = None
names_tree Directory (Tree tree) = Some tree

-- that of the inode that a number has
abbrev pub names_tree_if : Option Inode → Option BlockTree
names_tree_if None = None
names_tree_if (Some inode) = names_tree inode.kind inode.content

-- the names in such a tree
abbrev pub names_if : Store → Option BlockTree → List Link
names_if s None = []
names_if s (Some tree) = names_of s (Tree tree)

-- the content that a file has its bytes in; a directory has none
abbrev pub file_content : Kind → Content → Option Content
file_content File content = Some content
file_content Directory content = None

-- that of the inode that a number has
abbrev pub file_content_if : Option Inode → Option Content
file_content_if None = None
file_content_if (Some inode) = file_content inode.kind inode.content

-- the bytes of such a content
abbrev pub bytes_if : Store → Option Content → List ℕ
bytes_if s None = []
bytes_if s (Some content) = bytes_of s content
