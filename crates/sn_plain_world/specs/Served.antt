-- The parts of serving a call, and a call that was served: its reply, or why it isn't done, and the world after it.
use Rattle.std.specs.Prelude.{◌≡◌, ℕ, None, Some, Result, Ok, Err, IsOk}
use Rattle.sn_model.specs.declared.call.Call.{Call}
use Rattle.sn_model.specs.declared.call.Event.TheVariants as event
use Rattle.sn_model.specs.declared.reply.Reply.{Reply}
use Rattle.sn_model.specs.declared.change.Change.{Change}
use Rattle.sn_model.specs.Changes.{apply}
use Rattle.sn_model.specs.declared.outcome.AskedPoint.{AskedPoint}
use Rattle.sn_model.specs.declared.outcome.AskedPoint.TheVariants.{Freezes}
use Rattle.sn_model.specs.declared.outcome.Outcome.{Outcome}
use Rattle.sn_model.specs.Tree.{Tree}
use Rattle.sn_model.specs.World.{World}
use Rattle.sn_limits.specs.Versions.{limits_written}
use Rattle.sn_model.specs.Calls.{ready}
use Rattle.sn_model.specs.Steps.{Becomes, TakesMemory, decision, with_live}
use Rattle.sn_plain.specs.declared.fault.ApplyError.{ApplyError}
use Rattle.sn_plain.specs.declared.fault.ApplyError.TheVariants as lack
use Rattle.sn_core_decide_rules.specs.declared.fault.CallError as calls
use Rattle.sn_core_decide_rules.specs.declared.fault.CallError.TheVariants as undecided
use Rattle.sn_caller.specs.Numbering.{Numbers}
use Rattle.sn_plain_world.specs.PlainRuns.{Numbered}
use Rattle.sn_plain_world.specs.declared.fault.WorldError.{WorldError}
use Rattle.sn_plain_world.specs.declared.fault.WorldError.TheVariants.{Refused, Memory}

-- why a call has no outcome over the tree in memory, where no look-up finds a fault
abbrev pub as_error : {F : Type 0} → calls.CallError F → WorldError
as_error (undecided.Refused r) = Refused r
as_error undecided.Memory = Memory
as_error (undecided.View f) = Memory

-- why a call has no outcome
abbrev pub HasNone : WorldError → World → ℕ → Call → Type 0
HasNone (Refused r) world session c = decision limits_written world session c ≡ Err r
HasNone Memory world session c = TakesMemory c × IsOk (ready world session c)

-- the outcome of a call
abbrev pub Decides : World → ℕ → Call → Result Outcome WorldError → Type 0
Decides world session c (Ok o) = decision limits_written world session c ≡ Ok o
Decides world session c (Err e) = HasNone e world session c

-- a run in memory keeps no tree but the live one, as if it found no memory for a snapshot's
abbrev pub memory_for : AskedPoint → Result (Unit {0}) WorldError
memory_for (Freezes name) = Err Memory
memory_for asked = Ok tt

-- why a change isn't made
abbrev pub LacksFor : ApplyError → Change → World → World → Type 0
LacksFor lack.CannotApply c old new = (apply limits_written c old.live ≡ None) × (new ≡ old)
LacksFor lack.Memory c old new = new ≡ old

-- a change of the live tree is made, or the world stays
abbrev pub MakesChange : Result (Unit {0}) ApplyError → Change → World → World → Type 0
MakesChange (Ok _) c old new = (tree : Tree) × (apply limits_written c old.live ≡ Some tree) × (new ≡ with_live old tree)
MakesChange (Err e) c old new = LacksFor e c old new

abbrev pub FailsTo : WorldError → World → ℕ → Call → World → Type 0
FailsTo (Refused r) old session c new = (decision limits_written old session c ≡ Err r) × (new ≡ old)
FailsTo Memory old session c new = TakesMemory c × IsOk (ready old session c) × (new ≡ old)

abbrev pub Serves : Numbered → ℕ → Call → Result Reply WorldError → Numbered → Type 0
Serves old session c (Ok reply) new = Becomes limits_written old.world session (decision limits_written old.world session c) reply new.world × Numbers (event.Call session c) old.world old.kept new.world new.kept
Serves old session c (Err e) new = FailsTo e old.world session c new.world × (new.kept ≡ old.kept)
