-- Which fault an export tells, by how the last call ended.
use Rattle.std.specs.Prelude.{◌≡◌, ◌⊎◌, ℕ, List, Bool, true, false, Result, Ok, Err, Option, None, Some}
use Rattle.std.specs.Option.{option_and_then}
use Rattle.sn_model.specs.declared.reply.Errno.{Errno}
use Rattle.sn_model.specs.declared.reply.Errno.TheVariants.{Enomem, Eio, Estopped}
use Rattle.sn_model.specs.declared.reply.FileStatus.{FileStatus}
use Rattle.sn_model.specs.declared.reply.Refusal.{Refusal}
use Rattle.sn_model.specs.declared.reply.Reply.{Reply}
use Rattle.sn_model.specs.declared.reply.Reply.TheVariants as answer
use Rattle.sn_model.specs.World.{Trees}
use Rattle.sn_walk.specs.declared.walking.Found.{Found}
use Rattle.sn_export_reading.specs.Serving.{LeadsTo}
use Rattle.sn_export_reading.specs.declared.fault.ExportFault.{ExportFault}
use Rattle.sn_export_reading.specs.declared.fault.ExportFault.TheVariants.{Path, Memory, Stopped, Output, Contradiction}

-- ---- the fault of a refusal

-- Why a call is refused: it finds no memory, the device failed or the mount has stopped, or what it asks for can't be.
pub data Reason : Type 0 where
  OfMemory : Reason
  OfMount : Reason
  OfCall : Reason

abbrev pub reason_of : Errno → Reason
reason_of Enomem = OfMemory
reason_of Eio = OfMount
reason_of Estopped = OfMount
reason_of errno = OfCall

-- the fault of a refusal, this one where the reason is the call's own
abbrev pub fault_for : Reason → ExportFault → ExportFault
fault_for OfMemory own = Memory
fault_for OfMount own = Stopped
fault_for OfCall own = own

abbrev pub refusal_in : Reply → Option Refusal
refusal_in (answer.Refused refusal) = Some refusal
refusal_in reply = None

-- the fault of a reply that isn't the one asked for
abbrev pub fault_by : ExportFault → Option Refusal → ExportFault
fault_by own None = Contradiction
fault_by own (Some refusal) = fault_for (reason_of refusal.errno) own

-- ---- when a fault is told

-- the last reply, if there was one, refuses nothing
abbrev pub Goes : (Option Reply → Type 0) → Type 0
Goes Last = (reply : Option Reply) × Last reply × (option_and_then refusal_in reply ≡ None)

-- the last call was refused for this reason
pub record IsRefused (Last : Option Reply → Type 0) (reason : Reason) : Type 0 where
  pub reply : Reply
  pub last : Last (Some reply)
  pub refusal : Refusal
  pub refuses : refusal_in reply ≡ Some refusal
  pub reason_is : reason_of refusal.errno ≡ reason

-- the last call found the directory of snapshots, by its number
abbrev pub IsOfSnapshots : (Option Reply → Type 0) → Type 0
IsOfSnapshots Last = (status : FileStatus) × Last (Some (answer.Status status)) × (status.number ≡ 1)

-- Why this fault is told. `Path`: the last call was refused for what it asks for, or found the directory of snapshots. `Stopped`: it was
-- refused since the device failed or the mount has stopped. Memory and outputs tell nothing of themselves: their faults are told where
-- no call was refused, or a call for want of memory.
abbrev pub IsToldTruly : (Option Reply → Type 0) → ExportFault → Type 0
IsToldTruly Last Path = IsRefused Last OfCall ⊎ IsOfSnapshots Last
IsToldTruly Last Memory = IsRefused Last OfMemory ⊎ Goes Last
IsToldTruly Last Stopped = IsRefused Last OfMount
IsToldTruly Last (Output error) = Goes Last
IsToldTruly Last Contradiction = IsRefused Last OfCall ⊎ Goes Last

-- what is told of calls: the last one wasn't refused, or a fault says why
abbrev pub Tells : {A : Type 0} → (Option Reply → Type 0) → Result A ExportFault → Type 0
Tells Last (Ok a) = Goes Last
Tells Last (Err fault) = IsToldTruly Last fault

-- ---- faults that no call is the reason of

abbrev pub is_own : ExportFault → Bool
is_own Memory = true
is_own (Output error) = true
is_own Contradiction = true
is_own fault = false

abbrev pub is_of_path : ExportFault → Bool
is_of_path Path = true
is_of_path fault = false

abbrev pub is_of_output : ExportFault → Bool
is_of_output (Output error) = true
is_of_output fault = false

-- ---- what isn't at a path

abbrev pub LeadsNowhere : Trees → List ℕ → Type 0
LeadsNowhere trees path = (found : Found) → LeadsTo trees path found → ⊥
