-- The name tree. A tree is two finite maps: from a number to its node, and from a directory and a name to the number that the name denotes.
use Rattle.std.specs.Prelude.{ℕ, zero, suc, ◌+◌, ◌-◌, Bool, ◌==◌, List, length, Option, None, Some, count_by, if◌then◌else◌}
use Rattle.std.specs.declared.cmp.Ordering.{Ordering}
use Rattle.std.specs.Ordering.{nat_cmp, ordering_then}
use Rattle.std.specs.Option.{option_map, option_and_then, is_some}
use Rattle.std.specs.Cmp.Lexicographic.{slice_cmp}
use Rattle.std.specs.FinMap as map
use Rattle.sn_acl.specs.declared.entries.Entry.{Entry}
use Rattle.sn_limits.specs.declared.kind.Kind.{Kind}
use Rattle.sn_limits.specs.declared.kind.Kind.TheVariants.{File, Directory}
use Rattle.sn_walk.specs.declared.view.Attributes.{Attributes}
use Rattle.sn_walk.specs.Views.{ViewedTree}
use Rattle.sn_limits.specs.declared.limits.Limits.{Limits}
use Rattle.sn_model.specs.declared.link.Link.{Link}

-- A node: what <sys/stat.h> of POSIX.1-2017 has of owners, modes and bytes, and the two ACLs of acl(5).
pub record Node : Type 0 where
  pub kind : Kind
  pub owner : ℕ
  pub group : ℕ
  pub set_gid : Bool
  pub sticky : Bool
  pub acl : List Entry
  pub default_acl : Option (List Entry)
  pub bytes : List ℕ

-- names are in order by their directory, and then by their bytes
abbrev pub link_cmp : Link → Link → Ordering
link_cmp a b = ordering_then (nat_cmp a.directory b.directory) (slice_cmp nat_cmp a.name b.name)

pub record Tree : Type 0 where
  pub nodes : map.FinMap nat_cmp Node
  pub links : map.FinMap link_cmp ℕ

abbrev pub link_to : ℕ → List ℕ → Link
link_to directory name = record { directory = directory; name = name }

-- how many names a directory has
abbrev pub names_in : Tree → ℕ → ℕ
names_in tree directory = count_by (λ e. e.0.directory == directory) (map.entries tree.links)

-- how many names a number has
abbrev pub names_for : Tree → ℕ → ℕ
names_for tree number = count_by (λ e. e.1 == number) (map.entries tree.links)

-- a directory counts as one link, and as no bytes
abbrev pub link_count : Kind → ℕ → ℕ
link_count File names = names
link_count Directory names = 1

abbrev pub size_of : Kind → List ℕ → ℕ
size_of File bytes = length bytes
size_of Directory bytes = 0

abbrev pub attributes_of : Tree → ℕ → Node → Attributes
attributes_of tree number node = record {
  kind = node.kind;
  set_gid = node.set_gid;
  sticky = node.sticky;
  owner = node.owner;
  group = node.group;
  acl = node.acl;
  links = link_count node.kind (names_for tree number);
  size = size_of node.kind node.bytes;
}

-- the tree as a walk sees it
abbrev pub viewed : Tree → ViewedTree
viewed tree = record {
  node = λ number. option_map (attributes_of tree number) (map.get tree.nodes number);
  link = λ directory name. map.get tree.links (link_to directory name);
  default_acl = λ number. option_and_then (λ node. node.default_acl) (map.get tree.nodes number);
}

-- the least number from a first one on that isn't used, among so many
unfoldable pub first_without : (ℕ → Bool) → ℕ → ℕ → Option ℕ
first_without used first zero = None
first_without used first (suc more) = if used first then first_without used (first + 1) more else Some first

-- the least unused number, from the root's on
unfoldable pub least_unused : Limits → Tree → Option ℕ
least_unused limits tree = first_without (λ number. is_some (map.get tree.nodes number)) 2 (limits.largest_number - 1)

-- the tree with a new node under a new name
abbrev pub with_node : Tree → ℕ → Link → Node → Tree
with_node tree number link node = record {
  nodes = map.insert tree.nodes number node;
  links = map.insert tree.links link number;
}
