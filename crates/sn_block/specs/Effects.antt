-- What writes and syncs do to a disk, whatever their answer.
use Rattle.std.specs.Prelude.{◌≡◌, ℕ, List, Result, OnOk, slice_set}
use Rattle.sn_device.specs.Sectors.{Single, Stretch}
use Rattle.sn_device.specs.Disk.{Disk, reads, IsSynced}
use Rattle.sn_device.specs.Crash.{Touches}
use Rattle.sn_ondisk.specs.Blocks.{bytes_at}

-- no sector
abbrev pub Nowhere : ℕ → Type 0
Nowhere i = ⊥

-- One sector alone was written, if any. At `Ok` it reads as these bytes.
pub record WritesSector {T E : Type 0} (at : ℕ) (bytes : List ℕ) (result : Result T E) (old new : Disk) : Type 0 where
  pub touched : Touches (Single at) old new
  pub done : OnOk result (reads new ≡ slice_set (reads old) at bytes)

-- Only sectors of a stretch were written. At `Ok` it reads as these bytes.
pub record WritesStretch {T E : Type 0} (at n : ℕ) (bytes : List ℕ) (result : Result T E) (old new : Disk) : Type 0 where
  pub touched : Touches (Stretch at n) old new
  pub done : OnOk result (bytes_at (reads new) at n ≡ bytes)

-- Nothing was written. At `Ok` nothing is unsynced.
pub record SyncsAll {T E : Type 0} (result : Result T E) (old new : Disk) : Type 0 where
  pub touched : Touches Nowhere old new
  pub same : reads new ≡ reads old
  pub synced : OnOk result (IsSynced new)

-- One sector alone was written, if any. At `Ok` it reads as these bytes, and nothing is unsynced.
pub record WritesSynced {T E : Type 0} (at : ℕ) (bytes : List ℕ) (result : Result T E) (old new : Disk) : Type 0 where
  pub touched : Touches (Single at) old new
  pub done : OnOk result (reads new ≡ slice_set (reads old) at bytes)
  pub synced : OnOk result (IsSynced new)
