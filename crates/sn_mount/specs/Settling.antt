-- What becomes of what was found: files without names are dropped, and what is to recover becomes a root.
use Rattle.std.specs.Prelude.{◌≡◌, ℕ, Bool, false, Result, IfOk}
use Rattle.sn_changed.specs.Changed.{HasChanged}
use Rattle.sn_device.specs.Crash.{LeavesOnly}
use Rattle.sn_device.specs.Disk.{Disk, reads}
use Rattle.sn_layout.specs.declared.geometry.Area.TheVariants.{MapCopy}
use Rattle.sn_layout.specs.Geometry.{start_of}
use Rattle.sn_limits.specs.declared.limits.Limits.{Limits}
use Rattle.sn_model.specs.declared.fault.Damage.TheVariants.{MapWord}
use Rattle.sn_model.specs.declared.fault.MountFault.{MountFault}
use Rattle.sn_model.specs.declared.fault.MountFault.TheVariants as fault
use Rattle.sn_model.specs.Settling.{settled}
use Rattle.sn_model.specs.Tree.{Tree}
use Rattle.sn_model.specs.World.{World}
use Rattle.sn_ondisk.specs.Trees.{store_of}
use Rattle.sn_overlay.specs.Needs.{AreCharged}
use Rattle.sn_overlay.specs.Overlays.{no_changes}
use Rattle.sn_held.specs.Held.{Kept}
use Rattle.sn_held.specs.Images.{IsImage}
use Rattle.sn_cp_held.specs.Builds.{CanBeBuilt}
use Rattle.sn_cp_held.specs.Recovering.{HasReplayed}
use Rattle.sn_cp_whole.specs.Planning.{kept_in}
use Rattle.sn_cp_whole.specs.Recovering.{IsImageOver}
use Rattle.sn_cp_whole.specs.declared.base.PointBase.{PointBase}
use Rattle.sn_cp_whole.specs.declared.fault.PointFault.{PointFault}
use Rattle.sn_cp_whole.specs.declared.fault.PointFault.TheVariants as point

-- The same root is kept, and what changed of its tree up to this live tree has become what changed up to the settled one.
pub record SettlesChanges (old : Kept) (live : Tree) (new : Kept) : Type 0 where
  pub slot : new.slot ≡ old.slot
  pub root : new.root ≡ old.root
  pub words : new.words ≡ old.words
  pub changed : (limits : Limits) (root : Tree) (charged : ℕ) → AreCharged limits → HasChanged limits old.changed root live charged → HasChanged limits new.changed root (settled live) charged

-- What a recovery that isn't made makes of a mount. That no age is left never happens, since that is checked before.
abbrev pub mount_fault : PointFault → ℕ → MountFault
mount_fault point.Memory map = fault.Memory
mount_fault point.Read map = fault.Device
mount_fault point.Device map = fault.Device
mount_fault point.Damaged map = fault.Damaged MapWord map
mount_fault point.Age map = fault.Damaged MapWord map

-- Of a disk that is an image of a world, and of which this was kept, a crash at any moment leaves an image of it. At `Ok` it is one over the root that is kept then, on which nothing is logged. Where nothing is to recover it is so from the start.
abbrev pub MakesRoot : Result PointBase MountFault → ℕ → Kept → Bool → Disk → Disk → Type 0
MakesRoot result n k recovers old new = (world : World) (im : IsImage (reads old) world) → im.blocks ≡ n → HasReplayed old world im k → (recovers ≡ false → IsImageOver old world n (record k { changed = no_changes }))
    → LeavesOnly old new (λ c. IsImage c world) × IfOk result (λ next. IsImageOver new world n (kept_in next no_changes))

-- why no root is made: memory was refused, the device failed, or root and map can't be used, which comes before anything is written
abbrev pub IsNoRoot : MountFault → ℕ → Kept → Disk → Disk → Type 0
IsNoRoot (fault.Damaged damage block) n k old new = (damage ≡ MapWord) × (block ≡ start_of n (MapCopy k.slot)) × (new ≡ old) × (CanBeBuilt n (store_of (reads old)) k → ⊥)
IsNoRoot fault.Memory n k old new = Unit {0}
IsNoRoot fault.Device n k old new = Unit {0}
IsNoRoot cause n k old new = ⊥
