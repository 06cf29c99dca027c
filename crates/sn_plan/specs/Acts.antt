-- What a server does with a file system, in its order.
use Rattle.std.specs.Prelude.{ℕ, ◌&&◌, ◌||◌, Bool, false, true, List, ◌++◌, Option, Result}
use Rattle.sn_model.specs.declared.call.Call.{Call}
use Rattle.sn_model.specs.declared.call.Call.TheVariants as call
use Rattle.sn_model.specs.declared.reply.Reply.{Reply}
use Rattle.sn_model.specs.declared.reply.Reply.TheVariants.{Refused}
use Rattle.sn_walk.specs.declared.view.Attributes.{Attributes}
use Rattle.sn_plan.specs.declared.errors.LookFault.{LookFault}
use Rattle.sn_plan.specs.declared.file_system.Space.{Space}

-- a call of a session with its reply; the number of what a path led to; the attributes of the object with a number; how much room was left
pub data Act : Type 0 where
  Called : ℕ → Call → Reply → Act
  Found : List ℕ → Result (Option ℕ) LookFault → Act
  Seen : ℕ → Result (Option Attributes) LookFault → Act
  Counted : Space → Act

-- Whether a call is to change what is there. One that opens a file is where it may make or cut it.
abbrev pub may_change : Call → Bool
may_change (call.Mkdir path mode) = true
may_change (call.Chmod path mode) = true
may_change (call.Chown path uid gid) = true
may_change (call.SetAcl path kind acl) = true
may_change (call.Rmdir path) = true
may_change (call.Unlink path) = true
may_change (call.Link old new) = true
may_change (call.Rename old new) = true
may_change (call.Open path flags mode) = flags.create || flags.truncate
may_change (call.Write fd bytes) = true
may_change (call.Ftruncate fd size) = true
may_change (call.SnapCreate name) = true
may_change (call.SnapDelete name) = true
may_change (call.SnapRestore name) = true
may_change other = false

abbrev pub is_answered : Reply → Bool
is_answered (Refused refusal) = false
is_answered other = true

-- a refused call changes nothing
abbrev pub is_change : Act → Bool
is_change (Called session call reply) = may_change call && is_answered reply
is_change other = false

-- where something was done from a beginning on, these acts are done after it
pub record Grows {F : Type 0} (old new : F → List Act → Type 0) (acts : List Act) : Type 0 where
  pub grows : (first : F) (before : List Act) → old first before → new first (before ++ acts)
