-- Runs of the machine that say which numbers new nodes get.
use Rattle.std.specs.Prelude.{ℕ, Bool, false, List}
use Rattle.sn_limits.specs.Versions.{limits_written}
use Rattle.sn_model.specs.declared.call.Event.{Event}
use Rattle.sn_model.specs.declared.reply.Reply.{Reply}
use Rattle.sn_model.specs.World.{World, new_world}
use Rattle.sn_model.specs.Machine.{Running, OfMemory, RunBy, StepOf}
use Rattle.sn_caller.specs.Numbering.{Numbers}

-- a world, and the numbers that are kept back in it
pub record Numbered : Type 0 where
  pub world : World
  pub kept : ℕ → Bool

-- the empty world, and none is kept back
abbrev pub new_numbered : Numbered
new_numbered = record { world = new_world; kept = λ number. false }

pub record PlainStep (old : Numbered) (e : Event) (reply : Reply) (new : Numbered) : Type 0 where
  pub step : StepOf OfMemory limits_written (Running old.world) e reply (Running new.world)
  pub numbers : Numbers e old.world old.kept new.world new.kept

abbrev pub PlainRun : Numbered → List Event → List Reply → Numbered → Type 0
PlainRun = RunBy PlainStep
