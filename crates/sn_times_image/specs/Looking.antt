-- What reads alone do to the counts of a device.
use Rattle.std.specs.Prelude.{◌≡◌, ◌⊎◌, ◌/◌, Option, Result, IfNone, OnOk, OnErr, OnSome, MatchBool}
use Rattle.sn_device.specs.Status.{has_ended, one_failure}
use Rattle.sn_device.specs.declared.status.Status.{Status}
use Rattle.sn_layout.specs.Geometry.{IsDiskSize}

-- the device has as many sectors as an image
abbrev pub HasImageSize : Status → Type 0
HasImageSize status = IsDiskSize (status.sectors / 8)

-- a read that fails counts its failure, or finds the device at its end
abbrev pub FailsRead : Status → Status → Type 0
FailsRead old new = MatchBool (has_ended old) (new ≡ old) (new ≡ one_failure old)

-- reads up to the first that fails
pub record Reads {T E : Type 0} (result : Result T E) (old new : Status) : Type 0 where
  pub done : OnOk result (new ≡ old)
  pub failed : OnErr result (FailsRead old new)

-- An image is read. There is no result exactly where the device has no size of one, or a read failed.
pub record Looks {T : Type 0} (result : Option T) (old new : Status) : Type 0 where
  pub found : OnSome result (HasImageSize old × (new ≡ old))
  pub none : IfNone result ((¬ HasImageSize old × (new ≡ old)) ⊎ (HasImageSize old × FailsRead old new))

-- Nothing was written or synced: at most one failure of a read was counted.
abbrev pub OnlyReads : Status → Status → Type 0
OnlyReads old new = (new ≡ old) ⊎ (new ≡ one_failure old)
