-- What a mounted file system keeps of its log: changes that make of the root's tree one that covers the live one.
use Rattle.std.specs.Prelude.{◌≡◌, Bool, ℕ, List, [], ◌∷◌, ◌++◌, Some}
use Rattle.sn_limits.specs.declared.limits.Limits.{Limits}
use Rattle.sn_layout.specs.declared.root.RootBody.{RootBody}
use Rattle.sn_model.specs.declared.change.Change.{Change}
use Rattle.sn_model.specs.Changes.{apply, apply_all}
use Rattle.sn_model.specs.Covers.{Covers}
use Rattle.sn_model.specs.Settling.{settled, without_nameless}
use Rattle.sn_model.specs.Tree.{Tree}
use Rattle.sn_ondisk.specs.Trees.{Store}
use Rattle.sn_image.specs.Image.{image}
use Rattle.sn_opening.specs.Worlds.{StandsFor, found, frozen_of}

-- These changes make of a tree one that covers the live one: it has the same names, and beside the live nodes files without names alone.
pub record MakesCover (limits : Limits) (changes : List Change) (from live : Tree) : Type 0 where
  pub tree : Tree
  pub applied : apply_all limits changes from ≡ Some tree
  pub covers : Covers tree live

-- With such changes a root stands for the world of the live tree, settled.
abbrev pub CoversStandForTheLive : Type 0
CoversStandForTheLive = (s : Store) (root : RootBody) (changes : List Change) (live : Tree) → MakesCover root.limits changes (image s root.inode_file) live
    → StandsFor s root changes (found live (frozen_of s root.snapshots))

-- A change that is made to the live tree can be made after them, and they cover it then.
abbrev pub OneMoreCovers : Type 0
OneMoreCovers = (limits : Limits) (changes : List Change) (change : Change) (from live after : Tree) → MakesCover limits changes from live → apply limits change live ≡ Some after
    → MakesCover limits (changes ++ change ∷ []) from after

-- Files without names that go from the live tree, which isn't logged, change nothing of it.
abbrev pub DroppingKeepsTheCover : Type 0
DroppingKeepsTheCover = (limits : Limits) (changes : List Change) (from live : Tree) (held : ℕ → Bool) → MakesCover limits changes from live → MakesCover limits changes from (without_nameless held live)

-- A mount that makes the changes continues with the settled tree.
abbrev pub ReplayCovers : Type 0
ReplayCovers = (limits : Limits) (changes : List Change) (from tree : Tree) → apply_all limits changes from ≡ Some tree → MakesCover limits changes from (settled tree)
