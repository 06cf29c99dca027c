-- The world that a root and some changes stand for.
use Rattle.std.specs.Prelude.{◌≡◌, ℕ, if◌then◌else◌, List, [], ◌∷◌, ◌++◌, Option, Some, None, replicate}
use Rattle.std.specs.List.{flat_map}
use Rattle.std.specs.FinMap as map
use Rattle.std.specs.Str.{bytes_eq}
use Rattle.sn_layout.specs.declared.root.RootBody.{RootBody}
use Rattle.sn_layout.specs.declared.snapshot.Snapshot.{Snapshot}
use Rattle.sn_model.specs.declared.change.Change.{Change}
use Rattle.sn_model.specs.Tree.{Tree}
use Rattle.sn_model.specs.World.{World}
use Rattle.sn_model.specs.Changes.{apply_all}
use Rattle.sn_model.specs.Settling.{settled}
use Rattle.sn_ondisk.specs.Trees.{Store}
use Rattle.sn_image.specs.Image.{image}
pub use Rattle.sn_image.specs.Image.{FrozenTrees, frozen_entry, frozen_of}
use Rattle.sn_image.specs.Reach.{reach}

-- the snapshot with a name
abbrev pub snapshot_named : List ℕ → List Snapshot → Option Snapshot
snapshot_named name [] = None
snapshot_named name (x ∷ xs) = if bytes_eq name x.name then Some x else snapshot_named name xs

-- the blocks that a root reaches, its snapshots too
abbrev pub all_reach : Store → RootBody → List ℕ
all_reach s root = reach s root.inode_file ++ flat_map (λ (snapshot : Snapshot). reach s snapshot.tree) root.snapshots

-- Nobody is logged in, nothing is open, and no live file is without a name.
abbrev pub found : Tree → FrozenTrees → World
found live frozen = record { live = settled live; frozen = frozen; sessions = replicate 64 None; descriptors = map.empty }

-- With these changes on top of it a root stands for a world: they are made on its live tree, and its snapshots stay.
pub record StandsFor (s : Store) (root : RootBody) (changes : List Change) (world : World) : Type 0 where
  pub tree : Tree
  pub applied : apply_all root.limits changes (image s root.inode_file) ≡ Some tree
  pub settles : world ≡ found tree (frozen_of s root.snapshots)
