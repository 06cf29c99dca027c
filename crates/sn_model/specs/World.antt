-- The world that calls see: the live tree, the frozen trees by snapshot name, who is logged in, and what is open.
use Rattle.std.specs.Prelude.{ℕ, Bool, false, List, [], Option, None, Some, replicate}
use Rattle.std.specs.Option.{option_map_or}
use Rattle.std.specs.declared.cmp.Ordering.{Ordering}
use Rattle.std.specs.Ordering.{nat_cmp, ordering_then}
use Rattle.std.specs.Cmp.Lexicographic.{slice_cmp}
use Rattle.std.specs.FinMap as map
use Rattle.sn_acl.specs.Modes.{three_entries}
use Rattle.sn_walk.specs.declared.object.Home.{Home}
use Rattle.sn_walk.specs.declared.object.Home.TheVariants.{Live, Frozen}
use Rattle.sn_limits.specs.declared.kind.Kind.TheVariants.{Directory}
use Rattle.sn_walk.specs.Views.{ViewedTree, ViewedTrees, nothing}
use Rattle.sn_model.specs.declared.session.Session.{Session}
use Rattle.sn_model.specs.Tree.{Node, Tree, viewed}

-- the live tree, and the frozen ones by the names of their snapshots
pub record Trees : Type 0 where
  pub live : Tree
  pub frozen : map.FinMap (slice_cmp nat_cmp) Tree

abbrev pub tree_in : Trees → Home → Option Tree
tree_in trees Live = Some trees.live
tree_in trees (Frozen name) = map.get trees.frozen name

abbrev pub viewed_if : Option Tree → ViewedTree
viewed_if found = option_map_or viewed found nothing

-- the trees as a walk sees them
abbrev pub viewed_trees : Trees → ViewedTrees
viewed_trees trees = record { tree = λ home. viewed_if (tree_in trees home); has_snapshot = λ name. map.contains_key trees.frozen name }

-- an open file: its tree and number, what it was opened for, and its offset
pub record Descriptor : Type 0 where
  pub home : Home
  pub number : ℕ
  pub readable : Bool
  pub writable : Bool
  pub appends : Bool
  pub offset : ℕ

-- descriptors are in order by session, and then by number
abbrev pub descriptor_cmp : ℕ × ℕ → ℕ × ℕ → Ordering
descriptor_cmp a b = ordering_then (nat_cmp a.0 b.0) (nat_cmp a.1 b.1)

-- the sessions are 64, None where nobody is logged in
pub record World : Type 0 where
  pub live : Tree
  pub frozen : map.FinMap (slice_cmp nat_cmp) Tree
  pub sessions : List (Option Session)
  pub descriptors : map.FinMap descriptor_cmp Descriptor

abbrev pub trees_of : World → Trees
trees_of world = record { live = world.live; frozen = world.frozen }

-- the root directory of a new tree: 0:0, mode 0755
abbrev pub new_root : Node
new_root = record {
  kind = Directory;
  owner = 0;
  group = 0;
  set_gid = false;
  sticky = false;
  acl = three_entries (record { owner = 7; group = 5; other = 5 });
  default_acl = None;
  bytes = [];
}

abbrev pub new_tree : Tree
new_tree = record { nodes = map.insert map.empty 2 new_root; links = map.empty }

-- nobody is logged in, and the live tree is a root directory alone
abbrev pub new_world : World
new_world = record { live = new_tree; frozen = map.empty; sessions = replicate 64 None; descriptors = map.empty }
