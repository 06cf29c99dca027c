-- What stays of a mounted file system whose live tree was looked at.
use Rattle.std.proofs.Common.{◌≡◌, ℕ, ◌+◌, ◌^◌, ◌≤◌, Bool, false, Option, Some, Err, refl, sym, ap, subst, ◌∙◌}
use Rattle.std.specs.Prelude.{◌≢◌, IsTrue}
use Rattle.sn_cp_whole.specs.declared.base.PointBase.{PointBase}
use Rattle.sn_cp_whole.specs.Going.{BeginsPoint}
use Rattle.sn_cp_whole.specs.Making.{MakesPoint}
use Rattle.sn_cp_whole.specs.declared.fault.PointFault.{PointFault}
use Rattle.sn_cp_whole.specs.declared.fault.PointFault.TheVariants as point
use Rattle.sn_cp_whole.specs.declared.going.GoingPoint.{GoingPoint}
use Rattle.sn_desc.specs.InUse.{live_in}
use Rattle.sn_block.specs.Counts.{CountsCalls}
use Rattle.sn_block.proofs.CountLemmas.{later-calls}
use Rattle.sn_device.specs.Disk.{Disk}
use Rattle.sn_device.specs.declared.status.Status.{Status}
use Rattle.sn_live_world.specs.World.{Alike, HasDrops, descriptors_of, nameless_of}
use Rattle.sn_live_world.specs.declared.world.LiveWorld.{LiveWorld}
use Rattle.sn_held.specs.Held.{Held, Kept}
use Rattle.sn_limits.specs.Versions.{limits_written}
use Rattle.sn_log.specs.Appending.{Appends}
use Rattle.sn_log.specs.Positions.{LogPosition}
use Rattle.sn_model.specs.Changes.{apply}
use Rattle.sn_model.specs.Tree.{Tree}
use Rattle.sn_model.specs.declared.outcome.AskedPoint.{AskedPoint}
use Rattle.sn_model.specs.Settling.{dropped}
use Rattle.sn_model.specs.Steps.{with_caller}
use Rattle.sn_model.specs.World.{Trees, World}
use Rattle.sn_model.specs.declared.outcome.Caller.{Caller}
use Rattle.sn_model.specs.declared.outcome.Caller.TheVariants.{Stays, LogsIn, SetsUmask, LogsOut, Opens, OpensNew, Closes, Moves}
use Rattle.sn_model.specs.declared.change.Change.{Change}
use Rattle.sn_model.specs.Descriptors.{Descriptors}
use Rattle.sn_held.specs.Rooms.{RoomCounts}
use Rattle.sn_events.specs.Answers.{writes_of}
use Rattle.sn_events.specs.Changing.{IsCut}
use Rattle.sn_events.specs.Mounted.{IsBased, IsMeant, IsMounted}
use Rattle.sn_events.proofs.LookLemmas.{alike_meant, meant_looked}
use Rattle.sn_events.proofs.ServeLemmas.{within_still}

-- the disk is the same, and so is what is shown
pub looked_mounted : (told : Bool) (disk now : Disk) (status after : Status) (at : LogPosition) (old new : LiveWorld) (room : RoomCounts) (base : PointBase) (going : Option GoingPoint) (stopped : Bool) → Alike old new → (IsTrue told → now ≡ disk) → after.sectors ≡ status.sectors
    → (stopped ≡ false → HasDrops new (live_in (descriptors_of old))) → IsMounted told disk status at old room base going stopped → IsMounted told now after at new room base going stopped
looked_mounted told disk now status after at old new room base going stopped alike same sectors drops sound = record {
  within = λ running. within_still at.blocks at.blocks status.sectors after.sectors refl sectors (sound.within running);
  parked = λ running. subst (λ (n : ℕ). room.dropped + n ≤ 2 ^ 33) (sym alike.nameless) (sound.parked running);
  based = sound.based;
  between = λ running none. alike.point ∙ sound.between running none;
  drops = λ running. subst (λ (d : Descriptors). HasDrops new (live_in d)) (sym alike.descriptors) (drops running);
  meant = λ running tells. alike_meant now after at old new room base going alike (meant_looked disk now status after at old room base going (same tells) (sound.meant running tells));
}

-- the device failed while the record of a change was appended, once its blocks had been looked at
pub is_cut : {T E : Type 0} (e : E) (change : Change) (old new : Held) (disk : Disk) (status : Status) (tree : Tree) → apply limits_written change old.world.live ≡ Some tree → disk ≡ old.disk → status ≡ old.status → Appends {T = T} {E = E} old.at change (Err e) disk new.disk
    → CountsCalls {T = T} {E = E} (writes_of change) 2 (Err e) status new.status → IsCut change old new
is_cut {T} {E} e change old new disk status tree applied same idle appended counted =
    let appends = subst (λ (d : Disk). Appends {T = T} {E = E} old.at change (Err e) d new.disk) same appended in
    let counts = subst (λ (s : Status). CountsCalls {T = T} {E = E} (writes_of change) 2 (Err e) s new.status) idle counted in
    record {
      tree = tree;
      applied = applied;
      touched = appends.touched;
      moments = appends.any_moment;
      failed = counts.cause;
      later = later-calls _ _ _ _ _ counts;
      costs = record { writes = counts.writes.1; syncs = counts.syncs.1 };
    }

-- where a failure stops it nothing is said of it
pub stopped_mounted : (told : Bool) (disk : Disk) (status : Status) (at : LogPosition) (world : LiveWorld) (room : RoomCounts) (base : PointBase) (going : Option GoingPoint) (now stops : Bool) → now ≡ false → (stops ≡ false → IsMounted told disk status at world room base going now) → IsMounted told disk status at world room base going stops
stopped_mounted told disk status at world room base going now stops running sound = record {
  within = λ goes_on. (sound goes_on).within running;
  parked = λ goes_on. (sound goes_on).parked running;
  based = λ goes_on. (sound goes_on).based running;
  between = λ goes_on. (sound goes_on).between running;
  drops = λ goes_on. (sound goes_on).drops running;
  meant = λ goes_on. (sound goes_on).meant running;
}

-- ---- a caller that turns

-- which makes no difference to the frozen trees
pub turned_frozen : (w : World) (trees : Trees) (session : ℕ) (caller : Caller) → record (dropped (with_caller w session caller)) { frozen = trees.frozen } ≡ dropped (with_caller (record w { frozen = trees.frozen }) session caller)
turned_frozen w trees session Stays = refl
turned_frozen w trees session (LogsIn s) = refl
turned_frozen w trees session (SetsUmask mask) = refl
turned_frozen w trees session LogsOut = refl
turned_frozen w trees session (Opens fd home number flags) = refl
turned_frozen w trees session (OpensNew fd flags) = refl
turned_frozen w trees session (Closes fd) = refl
turned_frozen w trees session (Moves fd offset) = refl

-- ---- a point that isn't made

-- where the device hasn't failed the disk is as it was
pub unmade_same : (fault : PointFault) → fault ≢ point.Device → (asked : AskedPoint) (world : World) (old : Disk) (new : Held) (k : Kept) → MakesPoint (Err fault) asked world old new k → new.disk ≡ old
unmade_same point.Memory goes_on asked world old new k made = made
unmade_same point.Age goes_on asked world old new k made = made
unmade_same point.Read goes_on asked world old new k made = made
unmade_same point.Damaged goes_on asked world old new k made = absurd made
unmade_same point.Device goes_on asked world old new k made = absurd (goes_on refl)

pub unbegun_same : (fault : PointFault) → fault ≢ point.Device → (asked : AskedPoint) (world : World) (h : Held) (k : Kept) (at : LogPosition) (old new : Disk) → BeginsPoint (Err fault) asked world h k at old new → new ≡ old
unbegun_same point.Memory goes_on asked world h k at old new made = made
unbegun_same point.Age goes_on asked world h k at old new made = made
unbegun_same point.Read goes_on asked world h k at old new made = made
unbegun_same point.Damaged goes_on asked world h k at old new made = absurd made
unbegun_same point.Device goes_on asked world h k at old new made = absurd (goes_on refl)

-- what is kept is the same, and so is the disk where it continues
pub kept_mounted : (told : Bool) (disk now : Disk) (status after : Status) (at at1 : LogPosition) (world : LiveWorld) (room room1 : RoomCounts) (base base1 : PointBase) (going : Option GoingPoint) (was stops : Bool) → was ≡ false → base1 ≡ base → room1 ≡ room → (stops ≡ false → at1 ≡ at) → after.sectors ≡ status.sectors
    → (stops ≡ false → IsTrue told → now ≡ disk) → IsMounted told disk status at world room base going was → IsMounted told now after at1 world room1 base1 going stops
kept_mounted told disk now status after at at1 world room room1 base base1 going was stops running base_is room_is at_is sectors same sound = record {
  within = λ goes_on. within_still at.blocks at1.blocks status.sectors after.sectors (ap (λ (a : LogPosition). a.blocks) (at_is goes_on)) sectors (sound.within running);
  parked = λ goes_on. subst (λ (r : RoomCounts). r.dropped + nameless_of world ≤ 2 ^ 33) (sym room_is) (sound.parked running);
  based = λ goes_on. subst (IsBased going at1) (sym base_is) (subst (λ (a : LogPosition). IsBased going a base) (sym (at_is goes_on)) (sound.based running));
  between = λ goes_on. sound.between running;
  drops = λ goes_on. sound.drops running;
  meant = λ goes_on tells.
      subst (λ (r : RoomCounts). IsMeant now after at1 world r base1 going) (sym room_is) (subst (λ (b : PointBase). IsMeant now after at1 world room b going) (sym base_is) (subst (λ (a : LogPosition). IsMeant now after a world room base going) (sym (at_is goes_on))
      (meant_looked disk now status after at world room base going (same goes_on tells) (sound.meant running tells))));
}
