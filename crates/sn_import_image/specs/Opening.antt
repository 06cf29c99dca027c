-- The calls that an import makes before its first entry.
use Rattle.std.specs.Prelude.{◌≡◌, ◌⊎◌, ℕ, true, false, List, [], ◌∷◌, ◌++◌, Result, Ok, Err, IsOk}
use Rattle.std.specs.List.{AllByRecursion}
use Rattle.sn_limits.specs.declared.kind.Kind.{Kind}
use Rattle.sn_limits.specs.declared.kind.Kind.TheVariants.{File, Directory}
use Rattle.sn_model.specs.declared.call.Call.{Call}
use Rattle.sn_model.specs.declared.call.Call.TheVariants as call
use Rattle.sn_model.specs.declared.reply.Errno.{Errno}
use Rattle.sn_model.specs.declared.reply.Errno.TheVariants.{Eio, Enomem, Estopped}
use Rattle.sn_model.specs.declared.reply.Reply.{Reply}
use Rattle.sn_model.specs.declared.reply.Reply.TheVariants as reply
use Rattle.sn_import_calls.specs.Acts.{Act, Called, Told, calls_in}
use Rattle.sn_import_image.specs.declared.fault.ImportFault.{ImportFault}
use Rattle.sn_import_image.specs.declared.fault.ImportFault.TheVariants.{Memory, Path, Stopped}

-- user 0 of session 0
abbrev pub login : Call
login = call.Login 0 0 []

-- what isn't in the live tree can't be written, whoever asks
abbrev pub access : List ℕ → Call
access path = call.Access path (record { read = false; write = true; execute = false })

abbrev pub stat : List ℕ → Call
stat path = call.Stat path

abbrev pub first_calls : List ℕ → List Call
first_calls path = login ∷ access path ∷ stat path ∷ []

abbrev pub fault_of : Errno → ImportFault
fault_of Enomem = Memory
fault_of Eio = Stopped
fault_of Estopped = Stopped
fault_of _ = Path

abbrev pub seen : Kind → Result (Unit {0}) ImportFault
seen Directory = Ok tt
seen File = Err Path

-- what a reply to one of them says
abbrev pub judged : Reply → Result (Unit {0}) ImportFault
judged reply.Done = Ok tt
judged (reply.Status status) = seen status.kind
judged (reply.Refused refusal) = Err (fault_of refusal.errno)
judged _ = Err Stopped

-- a call whose reply lets the import go on
abbrev pub IsGood : Act → Type 0
IsGood (Called c told) = IsOk (judged told)
IsGood (Told entry name why) = ⊥

-- the last of these calls had a reply that doesn't
pub record IsJudged (why : ImportFault) (acts : List Act) : Type 0 where
  pub front : List Act
  pub last : Call
  pub told : Reply
  pub acts_are : acts ≡ front ++ Called last told ∷ []
  pub good : AllByRecursion IsGood front
  pub judged_so : judged told ≡ Err why

-- All calls were made, or a front of them: up to one that was refused, or to where no memory was left for the next.
abbrev pub EndsOpening : List Call → List Act → Result (Unit {0}) ImportFault → Type 0
EndsOpening left acts (Ok done) = (left ≡ []) × AllByRecursion IsGood acts
EndsOpening left acts (Err why) = ((why ≡ Memory) × AllByRecursion IsGood acts) ⊎ IsJudged why acts

pub record IsOpened (plan : List Call) (acts : List Act) (result : Result (Unit {0}) ImportFault) : Type 0 where
  pub left : List Call
  pub plan_is : plan ≡ calls_in acts ++ left
  pub ends : EndsOpening left acts result
