use Rattle.sn_limits.specs.Versions.{limits_written}
use Rattle.sn_model.specs.declared.call.Event.TheVariants.{Restart}
use Rattle.sn_model.specs.declared.reply.Reply.TheVariants.{Done}
use Rattle.sn_model.specs.Machine.{Running}
use Rattle.sn_model.proofs.MachineLemmas.{events_keep}
use Rattle.sn_plain_world.specs.Plain.{numbered_of, world_of}
use Rattle.sn_plain_world.specs.PlainRuns.{PlainStep}
use Rattle.sn_plain_world.proofs.StepLemmas.{restart_step}
use Rattle.sn_plain_world.proofs.world.PlainWorld.restart.Goals as goal

restarted : (c : goal.After-settle) → PlainStep (numbered_of c.args.self.now) Restart Done (numbered_of c.settle.new.self)
restarted c = restart_step (numbered_of c.args.self.now) (numbered_of c.settle.new.self) c.settle.ensures.world c.settle.ensures.kept

pub returns-clause-step : goal.returns-clause-step
returns-clause-step c = restarted c

pub returns-clause-whole : goal.returns-clause-whole
returns-clause-whole c = let s = (restarted c).step in events_keep limits_written (Running (world_of c.args.self.now)) (Running _) Restart s.0 Done tt c.requires s.2
