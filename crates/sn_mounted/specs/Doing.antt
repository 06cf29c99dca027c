-- What was done from one moment of a mount to another.
use Rattle.std.specs.Prelude.{◌≡◌, ℕ, Bool, false, List, [], ◌∷◌, ◌++◌, length, replicate, IsTrue, Option, Result, Ok, Err}
use Rattle.sn_live_world.specs.declared.fault.LookFault.{LookFault as Cause}
use Rattle.sn_live_world.specs.declared.fault.LookFault.TheVariants as cause
use Rattle.sn_model.specs.declared.call.Call.{Call}
use Rattle.sn_model.specs.declared.call.Event.TheVariants as event
use Rattle.sn_model.specs.declared.reply.Reply.{Reply}
use Rattle.sn_plan.specs.Acts.{Act, Called, Counted, Found, Seen}
use Rattle.sn_plan.specs.declared.errors.LookFault.{LookFault}
use Rattle.sn_plan.specs.declared.errors.LookFault.TheVariants.{Memory, Read}
use Rattle.sn_plan.specs.declared.file_system.Space.{Space}
use Rattle.sn_serving.specs.Pacing.{Paces}
use Rattle.sn_serving.specs.Served.{Leads, Misses, Served}
use Rattle.sn_walk.specs.declared.view.Attributes.{Attributes}
use Rattle.sn_mounted.specs.Shown.{Finds, Sees, Shown, places_after}

-- why a look fails
abbrev pub cause_of : LookFault → Cause
cause_of Memory = cause.Memory
cause_of Read = cause.Read

-- A look leaves what is served, but that the device counts a read that failed: without one it fails only for memory, and once it has stopped.
abbrev pub LooksAt : {T : Type 0} → Result T LookFault → Served → Served → Type 0
LooksAt (Ok it) old new = new ≡ old
LooksAt (Err fault) old new = Misses (cause_of fault) old new

-- What one act does: a call is answered as the machine does, and a look is of what is served then, which it leaves.
pub data Does (told : Bool) : Act → Shown → Shown → Type 0 where
  calls : {session : ℕ} {call : Call} {reply : Reply} {old new : Shown} → (IsTrue told → Leads (event.Call session call ∷ []) (reply ∷ []) old.served new.served)
      → new.places ≡ places_after call reply old.places → Does told (Called session call reply) old new
  finds : {path : List ℕ} {found : Result (Option ℕ) LookFault} {old new : Shown} → (IsTrue told → LooksAt found old.served new.served) → Finds told path found old new → Does told (Found path found) old new
  sees : {number : ℕ} {seen : Result (Option Attributes) LookFault} {old new : Shown} → (IsTrue told → LooksAt seen old.served new.served) → new.places ≡ old.places → Sees told number seen old
      → Does told (Seen number seen) old new
  counts : {space : Space} {old : Shown} → (IsTrue told → old.served.has_stopped ≡ false → space.left ≡ old.served.room.left) → Does told (Counted space) old old

-- The acts lead from the second to the first, with steps of consistency points between any two of them.
pub data Did (told : Bool) (first : Shown) : Shown → List Act → Type 0 where
  begins : Did told first first []
  does : {old new : Shown} {acts : List Act} {act : Act} → Did told first old acts → Does told act old new → Did told first new (acts ++ act ∷ [])
  steps : {old new : Shown} {acts : List Act} {replies : List Reply} → Did told first old acts
      → (IsTrue told → Leads (replicate (length replies) event.Step) replies old.served new.served) → new.places ≡ old.places → Did told first new acts

-- the same with the later moment first
abbrev pub DidFrom : Bool → Shown → Shown → List Act → Type 0
DidFrom told now first acts = Did told first now acts

-- the steps of consistency points were made that were due
abbrev pub PacesIn : Bool → Shown → Shown → Type 0
PacesIn told old new = IsTrue told → Paces old.served new.served
