-- What a disk opens to: the newest root with the changes of its log.
use Rattle.std.specs.Prelude.{ℕ, ◌*◌, ◌≤◌, List, ◌++◌, length, Contains}
use Rattle.sn_device.specs.Sectors.{Contents, AreSectors, Union}
use Rattle.sn_layout.specs.Geometry.{IsDiskSize, IsIn}
use Rattle.sn_layout.specs.declared.geometry.Area.TheVariants.{Data}
use Rattle.sn_layout.specs.declared.geometry.Slot.{Slot}
use Rattle.sn_layout.specs.declared.root.RootBody.{RootBody}
use Rattle.sn_model.specs.declared.change.Change.{Change}
use Rattle.sn_model.specs.World.{World}
use Rattle.sn_log.specs.Positions.{payloads_of}
use Rattle.sn_opening.specs.Spelled.{AreSpelled}
use Rattle.sn_ondisk.specs.Blocks.{InBlocks}
use Rattle.sn_ondisk.specs.Shown.{Shown, InShown}
use Rattle.sn_ondisk.specs.TreeLaws.{SameIn}
use Rattle.sn_ondisk.specs.Trees.{Store, store_of}
use Rattle.sn_opening.specs.Worlds.{StandsFor, all_reach}

-- A disk of n blocks that has all of them.
pub record IsDisk (n : ℕ) (c : Contents) : Type 0 where
  pub size : IsDiskSize n
  pub whole : AreSectors c
  pub long : 8 * n ≤ length c

-- A mount finds this world: the changes of the newest root's epoch are made on its tree, and after them those of the next one, under the limits of the root's version.
pub record Opens (n : ℕ) (c : Contents) (world : World) : Type 0 where
  pub slot : Slot
  pub root : RootBody
  pub older : List Change
  pub newer : List Change
  pub older_spelled : AreSpelled older
  pub newer_spelled : AreSpelled newer
  pub shown : Shown n c slot root (payloads_of older) (payloads_of newer)
  pub stands : StandsFor (store_of c) root (older ++ newer) world

-- The disk shows this root with these changes, and the blocks that it reaches are as they were when it was made: `s` has them.
pub record Shows (n : ℕ) (s : Store) (slot : Slot) (root : RootBody) (older newer : List Change) (c : Contents) : Type 0 where
  pub shown : Shown n c slot root (payloads_of older) (payloads_of newer)
  pub same : SameIn (all_reach s root) s (store_of c)

-- the sectors that this depends on
abbrev pub InShows : ℕ → Store → RootBody → ℕ → Type 0
InShows n s root = Union (InShown n root.epoch) (InBlocks (all_reach s root))

-- these blocks are of the data area
abbrev pub LieInData : ℕ → List ℕ → Type 0
LieInData n blocks = (block : ℕ) → Contains blocks block → IsIn n Data block
