-- What a walk sees of the trees, and the directory of snapshots, which is a rule of this project.
use Rattle.std.specs.Prelude.{ℕ, Bool, true, false, ◌&&◌, ◌==◌, List, Option, None, Some, codes, if◌then◌else◌}
use Rattle.std.specs.Option.{option_map}
use Rattle.std.specs.Cmp.Lexicographic.{pointwise}
use Rattle.sn_acl.specs.declared.entries.Entry.{Entry}
use Rattle.sn_acl.specs.Modes.{three_entries}
use Rattle.sn_limits.specs.SnapshotName.{is_snapshot_name}
use Rattle.sn_limits.specs.declared.kind.Kind.{Kind}
use Rattle.sn_limits.specs.declared.kind.Kind.TheVariants.{File, Directory}
use Rattle.sn_walk.specs.declared.view.Attributes.{Attributes}
use Rattle.sn_walk.specs.declared.object.Home.{Home}
use Rattle.sn_walk.specs.declared.object.Home.TheVariants.{Live, Frozen}
use Rattle.sn_walk.specs.declared.object.Object.{Object}
use Rattle.sn_walk.specs.declared.object.Object.TheVariants.{Node, Snapshots}

-- a tree as a walk sees it: the nodes by number, the numbers by directory and name, and the default ACLs
pub record ViewedTree : Type 0 where
  pub node : ℕ → Option Attributes
  pub link : ℕ → List ℕ → Option ℕ
  pub default_acl : ℕ → Option (List Entry)

-- the live tree and the frozen ones, and the names of snapshots
pub record ViewedTrees : Type 0 where
  pub tree : Home → ViewedTree
  pub has_snapshot : List ℕ → Bool

-- what is seen where there is no tree
abbrev pub nothing : ViewedTree
nothing = record { node = λ number. None; link = λ directory name. None; default_acl = λ number. None }

abbrev pub is_directory : Kind → Bool
is_directory File = false
is_directory Directory = true

-- the directory of snapshots: 0:0, mode 0555
abbrev pub hidden_attributes : Attributes
hidden_attributes = record {
  kind = Directory;
  set_gid = false;
  sticky = false;
  owner = 0;
  group = 0;
  acl = three_entries (record { owner = 5; group = 5; other = 5 });
  links = 1;
  size = 0;
}

abbrev pub attributes_at : ViewedTrees → Object → Option Attributes
attributes_at trees (Node home number) = (trees.tree home).node number
attributes_at trees Snapshots = Some hidden_attributes

-- the name under which a root has the directory of snapshots
abbrev pub is_hidden_name : ℕ → List ℕ → Bool
is_hidden_name directory name = (directory == 2) && pointwise ◌==◌ name (codes ".snapshot")

-- only the live root has it
abbrev pub hides : Home → ℕ → List ℕ → Bool
hides Live directory name = is_hidden_name directory name
hides (Frozen s) directory name = false

-- whether a name is that of a snapshot
abbrev pub is_snapshot : ViewedTrees → List ℕ → Bool
is_snapshot trees name = is_snapshot_name name && trees.has_snapshot name

-- what a name denotes in a directory; in the directory of snapshots, the root of a frozen tree
abbrev pub child_of : ViewedTrees → Object → List ℕ → Option Object
child_of trees (Node home directory) name = if hides home directory name then Some Snapshots else option_map (Node home) ((trees.tree home).link directory name)
child_of trees Snapshots name = if is_snapshot trees name then Some (Node (Frozen name) 2) else None
