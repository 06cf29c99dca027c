-- What a look leaves of what is held.
use Rattle.std.proofs.Common.{◌≡◌, inl, inr, Bool, true, Option, None, Some, Result, Ok, Err, refl, ap, sym}
use Rattle.std.specs.Prelude.{IfErr, OnOk}
use Rattle.std.specs.Option.{option_map}
use Rattle.sn_cp_whole.specs.declared.base.PointBase.{PointBase}
use Rattle.sn_cp_whole.specs.declared.going.GoingPoint.{GoingPoint}
use Rattle.sn_device.specs.Disk.{Disk}
use Rattle.sn_device.specs.declared.status.Status.{Status}
use Rattle.sn_held.specs.Held.{Held}
use Rattle.sn_live_view.specs.declared.looking.Known.{Known}
use Rattle.sn_live_world.specs.Faults.{CountsLook, CountsLookFault}
use Rattle.sn_live_world.specs.declared.fault.LookFault.{LookFault}
use Rattle.sn_live_world.specs.declared.fault.LookFault.TheVariants as look
use Rattle.sn_live_world.specs.declared.world.LiveWorld.{LiveWorld}
use Rattle.sn_log.specs.Positions.{LogPosition}
use Rattle.sn_held.specs.Rooms.{RoomCounts}
use Rattle.sn_walk.specs.declared.object.Object.{Object}
use Rattle.sn_walk.specs.declared.view.Attributes.{Attributes}
use Rattle.sn_events.specs.Mounted.{holding_on}
use Rattle.sn_events.proofs.LookLemmas.{looked_on}
use Rattle.sn_fs.specs.Looking.{IsUnseen}

module _ (disk now : Disk) (status after : Status) (at : LogPosition) (world : LiveWorld) (room : RoomCounts) (base : PointBase) (going : Option GoingPoint) (same : now ≡ disk) where
  pub quiet_look : {T : Type 0} (told : Bool) (result : Result T LookFault) → CountsLook told result status after
      → OnOk result (holding_on now after at world room base going ≡ holding_on disk status at world room base going)
  quiet_look told (Ok x) counts = looked_on disk now status after at world room base going same counts
  quiet_look told (Err f) counts = tt

  unseen : (told : Bool) → told ≡ true → (f : LookFault) → CountsLookFault told f status after → IsUnseen f (holding_on disk status at world room base going) (holding_on now after at world room base going)
  unseen told is look.Memory counts = looked_on disk now status after at world room base going same counts
  unseen told is look.Read (inl fails) = ((λ i. holding_on (same i) after at world room base going), fails)
  unseen told is look.Read (inr (nothing, never)) = absurd (never is)

  pub unseen_so : {T : Type 0} (told : Bool) → told ≡ true → (result : Result T LookFault) → CountsLook told result status after
      → IfErr result (λ f. IsUnseen f (holding_on disk status at world room base going) (holding_on now after at world room base going))
  unseen_so told is (Ok x) counts = tt
  unseen_so told is (Err f) counts = unseen told is f counts

-- what is known of an object is its attributes
abbrev known_of : Object → Attributes → Known
known_of object a = record { object = object; attributes = a }

pub attributes_known : (object : Object) (there : Option Attributes) (known : Option Known) → known ≡ option_map (known_of object) there → option_map (λ (k : Known). k.attributes) known ≡ there
attributes_known object None known is = ap (option_map (λ (k : Known). k.attributes)) is
attributes_known object (Some a) known is = ap (option_map (λ (k : Known). k.attributes)) is
