-- Which steps of consistency points are made between calls.
use Rattle.std.specs.Prelude.{◌≡◌, ℕ, zero, suc, Bool, true, false, List, [], ◌∷◌, length, replicate}
use Rattle.sn_model.specs.declared.call.Event.TheVariants as event
use Rattle.sn_model.specs.declared.reply.Progress.{Progress}
use Rattle.sn_model.specs.declared.reply.Progress.TheVariants.{Done, More}
use Rattle.sn_model.specs.declared.reply.Reply.{Reply}
use Rattle.sn_model.specs.declared.reply.Reply.TheVariants as reply
use Rattle.sn_serving.specs.Paces.{steps_due}
use Rattle.sn_serving.specs.Served.{Leads, Served}

-- Of so many steps all were made, or those up to one that ended the point, as is told besides, or that was refused.
pub data AreMade : ℕ → List Reply → Bool → Type 0 where
  all : AreMade zero [] false
  more : {count : ℕ} {replies : List Reply} {ended : Bool} → AreMade count replies ended → AreMade (suc count) (reply.Progress More ∷ replies) ended
  ends : {count : ℕ} → AreMade (suc count) (reply.Progress Done ∷ []) true
  refused : {count : ℕ} {told : Reply} → ((progress : Progress) → told ≡ reply.Progress progress → ⊥) → AreMade (suc count) (told ∷ []) false

-- steps with these replies lead from the one to the other
abbrev pub Steps : List Reply → Served → Served → Type 0
Steps replies old new = Leads (replicate (length replies) event.Step) replies old new

-- The steps that are due were made, and whether these ended a point. What has stopped makes none.
pub data MakesDue (old new : Served) : Bool → Type 0 where
  rests : old.has_stopped ≡ true → new ≡ old → MakesDue old new false
  makes : {replies : List Reply} {ended : Bool} → old.has_stopped ≡ false → AreMade (steps_due old.room) replies ended → Steps replies old new → MakesDue old new ended

-- Where they ended one, those were made too that are due for the next one.
pub data Paces (old new : Served) : Type 0 where
  once : MakesDue old new false → Paces old new
  again : {mid : Served} {ended : Bool} → MakesDue old mid true → MakesDue mid new ended → Paces old new
