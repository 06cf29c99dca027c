-- When the calls of a list were made, or a front of them.
use Rattle.std.specs.Prelude.{◌≡◌, ◌⊎◌, ℕ, Bool, true, false, List, [], ◌∷◌, ◌++◌, Option, Some, None, Result, Ok, Err, All, IsOk}
use Rattle.sn_model.specs.declared.call.Call.{Call}
use Rattle.sn_model.specs.declared.reply.Reply.{Reply}
use Rattle.sn_import.specs.declared.object.What.{What}
use Rattle.sn_import_calls.specs.Acts.{Act, Called, Told, calls_in}
use Rattle.sn_import_calls.specs.Answers.{answer}
use Rattle.sn_import_calls.specs.declared.stop.Stop.{Stop}
use Rattle.sn_import_calls.specs.declared.stop.Stop.TheVariants.{Refused, Memory, Damaged, Ended, Unread}

-- a call whose reply lets the entry go on
abbrev pub IsFine : What → Act → Type 0
IsFine what (Called call reply) = IsOk (answer what call reply)
IsFine what (Told entry name why) = ⊥

-- the acts are the calls of a plan but for those that are left, and each reply let the entry go on
pub record AreMade (what : What) (plan left : List Call) (acts : List Act) : Type 0 where
  pub plan_is : plan ≡ calls_in acts ++ left
  pub fine : All (IsFine what) acts

-- the last call stopped the entry
pub record IsRefused (what : What) (plan : List Call) (acts : List Act) (stop : Stop) : Type 0 where
  pub front : List Act
  pub call : Call
  pub reply : Reply
  pub left : List Call
  pub made : AreMade what plan (call ∷ left) front
  pub acts_are : acts ≡ front ++ Called call reply ∷ []
  pub stopped : answer what call reply ≡ Err stop

-- no reply is the reason
abbrev pub is_outside : Stop → Bool
is_outside (Refused errno) = false
is_outside Memory = true
is_outside Damaged = true
is_outside Ended = true
is_outside (Unread e) = true

-- no further call could be made
pub record IsBroken (what : What) (plan : List Call) (acts : List Act) (stop : Stop) : Type 0 where
  pub left : List Call
  pub made : AreMade what plan left acts
  pub outside : is_outside stop ≡ true

-- A front of a plan was made: up to a call that was refused, or to where there was no memory, or no archive.
abbrev pub IsStopped : What → List Call → List Act → Stop → Type 0
IsStopped what plan acts stop = IsRefused what plan acts stop ⊎ IsBroken what plan acts stop

-- a plan was made, but for what is left, or is stopped
abbrev pub Goes : {A : Type 0} → What → (plan left : List Call) → List Act → Result A Stop → Type 0
Goes what plan left acts (Ok a) = AreMade what plan left acts
Goes what plan left acts (Err stop) = IsStopped what plan acts stop

-- what stopped it, if something did
abbrev pub stop_of : {A : Type 0} → Result A Stop → Option Stop
stop_of (Ok a) = None
stop_of (Err stop) = Some stop

-- where something was done from a beginning on, these acts are done after it
pub record Grows {S : Type 0} (old new : S → List Act → Type 0) (acts : List Act) : Type 0 where
  pub grows : (first : S) (before : List Act) → old first before → new first (before ++ acts)

-- acts were done that are so
abbrev pub Adds : {S : Type 0} (old new : S → List Act → Type 0) → (List Act → Type 0) → Type 0
Adds old new Are = (acts : List Act) × Grows old new acts × Are acts

-- ---- descriptors

abbrev pub number_in : Result ℕ Stop → ℕ
number_in (Ok n) = n
number_in (Err stop) = 0

abbrev pub number_from : What → ℕ → List Act → ℕ
number_from what n [] = n
number_from what n (Called call reply ∷ acts) = number_from what (number_in (answer what call reply)) acts
number_from what n (Told entry name why ∷ acts) = number_from what n acts

-- the descriptor that the last of these calls gave
abbrev pub last_descriptor : What → List Act → ℕ
last_descriptor what acts = number_from what 0 acts
