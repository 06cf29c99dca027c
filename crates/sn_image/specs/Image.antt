-- The tree of the model that a root denotes.
use Rattle.std.specs.Prelude.{ℕ, List, [], ◌∷◌, Option, map}
use Rattle.std.specs.List.{flat_map}
use Rattle.std.specs.Option.{option_map, option_map_or}
use Rattle.std.specs.FinMap as fin
use Rattle.std.specs.Cmp.Lexicographic.{slice_cmp}
use Rattle.std.specs.Ordering.{nat_cmp}
use Rattle.sn_limits.specs.declared.kind.Kind.{Kind}
use Rattle.sn_limits.specs.declared.kind.Kind.TheVariants.{File, Directory}
use Rattle.sn_layout.specs.declared.snapshot.Snapshot.{Snapshot}
use Rattle.sn_layout.specs.declared.tree.BlockTree.{BlockTree}
use Rattle.sn_layout_acl.specs.AclBlock.{joined}
use Rattle.sn_layout_node.specs.declared.content.Content.{Content}
use Rattle.sn_layout_node.specs.declared.inode.Inode.{Inode}
use Rattle.sn_model.specs.declared.link.Link.{Link}
use Rattle.sn_model.specs.Tree.{Node, Tree, link_to}
use Rattle.sn_ondisk.specs.Trees.{Store}
use Rattle.sn_image.specs.Acls.{acls_at}
use Rattle.sn_image.specs.Contents.{bytes_of}
use Rattle.sn_image.specs.Inodes.{inode_at}
use Rattle.sn_image.specs.Names.{names_at}
use Rattle.sn_image.specs.Reach.{numbers}

-- the bytes of a directory are its names, which the model has as links
abbrev pub file_bytes : Store → Kind → Content → List ℕ
file_bytes s File content = bytes_of s content
file_bytes s Directory content = []

-- the node that an inode denotes
unfoldable pub node_of : Store → Inode → Node
node_of s inode = record {
  kind = inode.kind;
  owner = inode.owner;
  group = inode.group;
  set_gid = inode.set_gid;
  sticky = inode.sticky;
  acl = joined inode.objects (acls_at s inode.acl_block).access;
  default_acl = (acls_at s inode.acl_block).default;
  bytes = file_bytes s inode.kind inode.content;
}

-- the node of a number
unfoldable pub node_at : Store → BlockTree → ℕ → Option Node
node_at s inodes number = option_map (node_of s) (inode_at s inodes number)

-- there is nothing under a number that no node has
abbrev pub under_number : ℕ → Option Node → List (ℕ × Node)
under_number number found = option_map_or (λ node. (number, node) ∷ []) found []

unfoldable pub nodes_at : Store → BlockTree → ℕ → List (ℕ × Node)
nodes_at s inodes number = under_number number (node_at s inodes number)

-- the links of the directory of a number
unfoldable pub links_at : Store → BlockTree → ℕ → List (Link × ℕ)
links_at s inodes directory = map (λ name. (link_to directory name.name, name.number)) (names_at s inodes directory)

-- Each number has its node, and each name in a directory the number that is first listed with it.
unfoldable pub image : Store → BlockTree → Tree
image s inodes = record {
  nodes = fin.from_entries (flat_map (nodes_at s inodes) (numbers inodes));
  links = fin.from_entries (flat_map (links_at s inodes) (numbers inodes));
}

-- trees by the names of snapshots
abbrev pub FrozenTrees : Type 0
FrozenTrees = fin.FinMap (slice_cmp nat_cmp) Tree

-- a snapshot's tree by its name: its image as it is, files without names included
abbrev pub frozen_entry : Store → Snapshot → List ℕ × Tree
frozen_entry s snapshot = (snapshot.name, image s snapshot.tree)

-- the frozen trees of a root
abbrev pub frozen_of : Store → List Snapshot → FrozenTrees
frozen_of s snapshots = fin.from_entries (map (frozen_entry s) snapshots)
