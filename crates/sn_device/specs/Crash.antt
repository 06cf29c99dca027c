-- What calls add to what a crash might have left.
use Rattle.std.specs.Prelude.{◌≡◌, ◌⊎◌, ℕ, List, ◌∷◌, ◌++◌, Contains}
use Rattle.std.specs.List.{AllByRecursion}
use Rattle.sn_device.specs.Sectors.{Contents, AgreesOutside}
use Rattle.sn_device.specs.Disk.{Moment, Disk, clock, CrashSince}

-- the moments of a disk, of which the newest comes first
abbrev pub moments : Disk → List Moment
moments d = d.present ∷ d.past

-- Some calls led from the old disk to the new one, through these moments.
abbrev pub FollowsBy : List Moment → Disk → Disk → Type 0
FollowsBy since old new = moments new ≡ since ++ moments old

abbrev pub Follows : Disk → Disk → Type 0
Follows old new = (since : List Moment) × FollowsBy since old new

-- Each content that a crash since the old disk's moment might have left has P.
pub record LeavesOnly (old new : Disk) (P : Contents → Type 0) : Type 0 where
  pub follows : Follows old new
  pub each : (c : Contents) → CrashSince new (clock old) c → P c

-- between these moments only sectors in the set were written or tried
pub record TouchesOnly (F : ℕ → Type 0) (old new : Moment) : Type 0 where
  pub others : AgreesOutside F old.sectors new.sectors
  pub unsynced : (i : ℕ) → Contains new.unsynced i → F i ⊎ Contains old.unsynced i

-- Calls led from the old disk to the new one, all of whose writes were in the set.
pub record Touches (F : ℕ → Type 0) (old new : Disk) : Type 0 where
  pub since : List Moment
  pub follows : FollowsBy since old new
  pub each : AllByRecursion (TouchesOnly F old.present) since
