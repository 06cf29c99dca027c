-- What a disk shows: its newest root and the records that belong on top of it.
use Rattle.std.specs.Prelude.{ℕ, ◌+◌, List}
use Rattle.sn_device.specs.Sectors.{Contents, Union}
use Rattle.sn_layout.specs.declared.geometry.Slot.{Slot}
use Rattle.sn_layout.specs.declared.root.RootBody.{RootBody}
use Rattle.sn_ondisk.specs.LogHalf.{Replays, InHalf, base_of}
use Rattle.sn_ondisk.specs.Roots.{IsNewest, InRoots}

-- A disk of n blocks has this newest root. The older records are those of the root's epoch, and the newer ones, which come after them, those of the next epoch, in the other half.
pub record Shown (n : ℕ) (c : Contents) (slot : Slot) (root : RootBody) (older newer : List (List ℕ)) : Type 0 where
  pub newest : IsNewest c slot root
  pub has_older : Replays c (base_of n root.epoch) root.epoch older
  pub has_newer : Replays c (base_of n (root.epoch + 1)) (root.epoch + 1) newer

-- the sectors that what a disk shows depends on, where the root is of this epoch
abbrev pub InShown : ℕ → ℕ → ℕ → Type 0
InShown n epoch = Union InRoots (Union (InHalf (base_of n epoch)) (InHalf (base_of n (epoch + 1))))
