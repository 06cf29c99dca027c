-- What look-ups leave of what is held, and what holds the same.
use Rattle.std.proofs.Common.{◌≡◌, inl, inr, ℕ, Bool, true, false, Option, Result, Ok, Err, sym, ap, subst}
use Rattle.std.specs.Prelude.{IfErr, IfOk, MatchBool, OnOk}
use Rattle.sn_block.specs.Counts.{FailsRead}
use Rattle.sn_cp_progress.proofs.MeaningLemmas.{counted_with}
use Rattle.sn_cp_whole.specs.declared.base.PointBase.{PointBase}
use Rattle.sn_cp_whole.specs.declared.going.GoingPoint.{GoingPoint}
use Rattle.sn_device.specs.Disk.{Disk}
use Rattle.sn_device.specs.Status.{has_ended, one_failure}
use Rattle.sn_device.specs.declared.status.Status.{Status}
use Rattle.sn_held.specs.Held.{Held}
use Rattle.sn_limits.specs.Versions.{limits_written}
use Rattle.sn_live_world.specs.Faults.{CountsCall, CountsCallFault, CountsLook, CountsLookFault}
use Rattle.sn_live_world.specs.Turned.{Decides, HasNone}
use Rattle.sn_live_world.specs.World.{Alike, world_in}
use Rattle.sn_live_world.specs.declared.fault.CallFault.{CallFault}
use Rattle.sn_live_world.specs.declared.fault.CallFault.TheVariants.{Refused, Memory, Read}
use Rattle.sn_live_world.specs.declared.fault.LookFault.{LookFault}
use Rattle.sn_live_world.specs.declared.fault.LookFault.TheVariants as look
use Rattle.sn_live_world.specs.declared.world.LiveWorld.{LiveWorld}
use Rattle.sn_log.specs.Positions.{LogPosition}
use Rattle.sn_model.specs.Steps.{decision}
use Rattle.sn_model.specs.World.{World}
use Rattle.sn_model.specs.Worlds.{IsWorld}
use Rattle.sn_model.specs.declared.call.Call.{Call}
use Rattle.sn_model.specs.declared.change.Change.{Change}
use Rattle.sn_model.specs.declared.outcome.Outcome.{Outcome}
use Rattle.sn_held.specs.Rooms.{RoomCounts}
use Rattle.sn_cp_whole.specs.Planning.{kept_in}
use Rattle.sn_events.specs.Changing.{FailsChange, change_fault}
use Rattle.sn_events.specs.Pointing.{IsUnpointedTo, point_fault}
use Rattle.sn_overlay.specs.Layers.{Layer}
use Rattle.sn_events.specs.Mounted.{IsMeant, RunsNow, going_in, holding_on, tree_at, trees_there}
use Rattle.sn_events.specs.Serving.{IsUndecided}

-- ---- what is counted

read_sectors : (old new : Status) → FailsRead old new → new.sectors ≡ old.sectors
read_sectors old new fails = told (has_ended old) fails
  where
    told : (ended : Bool) → MatchBool ended (new ≡ old) (new ≡ one_failure old) → new.sectors ≡ old.sectors
    told true same = ap (λ (s : Status). s.sectors) same
    told false same = ap (λ (s : Status). s.sectors) same

call_fault_sectors : (told : Bool) (f : CallFault) (old new : Status) → CountsCallFault told f old new → new.sectors ≡ old.sectors
call_fault_sectors told (Refused r) old new same = ap (λ (s : Status). s.sectors) same
call_fault_sectors told Memory old new same = ap (λ (s : Status). s.sectors) same
call_fault_sectors told Read old new (inl fails) = read_sectors old new fails
call_fault_sectors told Read old new (inr same) = ap (λ (s : Status). s.sectors) same.0

pub call_sectors : {T : Type 0} (told : Bool) (result : Result T CallFault) (old new : Status) → CountsCall told result old new → new.sectors ≡ old.sectors
call_sectors told (Ok x) old new same = ap (λ (s : Status). s.sectors) same
call_sectors told (Err f) old new counts = call_fault_sectors told f old new counts

look_fault_sectors : (told : Bool) (f : LookFault) (old new : Status) → CountsLookFault told f old new → new.sectors ≡ old.sectors
look_fault_sectors told look.Memory old new same = ap (λ (s : Status). s.sectors) same
look_fault_sectors told look.Read old new (inl fails) = read_sectors old new fails
look_fault_sectors told look.Read old new (inr same) = ap (λ (s : Status). s.sectors) same.0

pub look_sectors : {T : Type 0} (told : Bool) (result : Result T LookFault) (old new : Status) → CountsLook told result old new → new.sectors ≡ old.sectors
look_sectors told (Ok x) old new same = ap (λ (s : Status). s.sectors) same
look_sectors told (Err f) old new counts = look_fault_sectors told f old new counts

-- ---- another disk and status, that are the same

module _ (disk now : Disk) (status after : Status) (at : LogPosition) (world : LiveWorld) (room : RoomCounts) (base : PointBase) (going : Option GoingPoint) (same : now ≡ disk) where
  abbrev h : Held
  h = holding_on disk status at world room base going

  abbrev new : Held
  new = holding_on now after at world room base going

  looked : after ≡ status → new ≡ h
  looked is = λ i. holding_on (same i) (is i) at world room base going

  counted : new ≡ record h { status = after }
  counted = λ i. holding_on (same i) after at world room base going

  -- a call is decided
  pub quiet : (told : Bool) (result : Result Outcome CallFault) → CountsCall told result status after → OnOk result (new ≡ h)
  quiet told (Ok o) counts = looked counts
  quiet told (Err f) counts = tt

  pub decided_so : (session : ℕ) (c : Call) (result : Result Outcome CallFault) → Decides h.world session c result → IfOk result (λ o. decision limits_written h.world session c ≡ Ok o)
  decided_so session c (Ok o) decides = decides
  decided_so session c (Err f) decides = tt

  undecided_for : (told : Bool) → told ≡ true → (session : ℕ) (c : Call) (f : CallFault) → HasNone f h.world session c → CountsCallFault told f status after → IsUndecided f h session c new
  undecided_for told is session c (Refused r) none counts = (none, looked counts)
  undecided_for told is session c Memory none counts = (none, looked counts)
  undecided_for told is session c Read none (inl fails) = (none, counted, fails)
  undecided_for told is session c Read none (inr (nothing, never)) = absurd (never is)

  pub undecided_so : (told : Bool) → told ≡ true → (session : ℕ) (c : Call) (result : Result Outcome CallFault) → Decides h.world session c result → CountsCall told result status after → IfErr result (λ f. IsUndecided f h session c new)
  undecided_so told is session c (Ok o) decides counts = tt
  undecided_so told is session c (Err f) decides counts = undecided_for told is session c f decides counts

  -- a change couldn't be looked at
  pub unread_change : (told : Bool) → told ≡ true → (change : Change) (f : LookFault) → CountsLookFault told f status after → FailsChange (change_fault f) change h new
  unread_change told is change look.Memory counts = looked counts
  unread_change told is change look.Read (inl fails) = (counted, fails)
  unread_change told is change look.Read (inr (nothing, never)) = absurd (never is)

  -- a snapshot couldn't be
  pub unread_snapshot : (told : Bool) → told ≡ true → (world_after : World) (Builds : Layer → Type 0) (f : LookFault) → CountsLookFault told f status after → IsUnpointedTo (point_fault f) world_after Builds h new
  unread_snapshot told is world_after Builds look.Memory counts = looked counts
  unread_snapshot told is world_after Builds look.Read (inl fails) = (counted, fails)
  unread_snapshot told is world_after Builds look.Read (inr (nothing, never)) = absurd (never is)

  -- or was
  pub looked_on : after ≡ status → new ≡ h
  looked_on is = looked is

  -- what is read is meant still
  pub meant_looked : IsMeant disk status at world room base going → IsMeant now after at world room base going
  meant_looked m = subst (λ (d : Disk). IsMeant d after at world room base going) (sym same) (record {
    over = m.over;
    whole = m.whole;
    runs = counted_with (going_in going) h h.world after m.runs;
    stands = m.stands;
  })

-- ---- another state of the live tree, that shows the same

module _ (disk : Disk) (status : Status) (at : LogPosition) (old new : LiveWorld) (room : RoomCounts) (base : PointBase) (going : Option GoingPoint) (alike : Alike old new) where
  alike_worlds : world_in new (trees_there disk base.root) ≡ world_in old (trees_there disk base.root)
  alike_worlds = ap (λ (w : World). record w { frozen = (trees_there disk base.root).frozen }) (alike.worlds (tree_at disk base.root))

  pub alike_held : holding_on disk status at new room base going ≡ holding_on disk status at old room base going
  alike_held = λ i. record (holding_on disk status at old room base going) {
    world = alike_worlds i;
    kept = λ n. alike.kept n i;
    kept_since = λ n. alike.since n i;
    base = kept_in base (alike.changes i);
  }

  pub alike_meant : IsMeant disk status at old room base going → IsMeant disk status at new room base going
  alike_meant m = record {
    over = alike.over (tree_at disk base.root) m.over;
    whole = subst (IsWorld limits_written) (sym alike_worlds) m.whole;
    runs = subst RunsNow (sym alike_held) m.runs;
    stands = m.stands;
  }
