use Rattle.std.proofs.Common.{refl}
use Rattle.sn_numbers.specs.Live.{live_of}
use Rattle.sn_limits.specs.Versions.{limits_written}
use Rattle.sn_plain_world.specs.Plain.{world_of}
use Rattle.sn_plain_world.proofs.StepLemmas.{applied_tree, made_so}
use Rattle.sn_plain_world.proofs.world.PlainWorld.apply.Goals as goal

-- a change is applied to a name tree
pub apply-requires : goal.apply-requires
apply-requires c = (limits_written, c.requires)

pub returns-clause-made : goal.returns-clause-made
returns-clause-made c = made_so c.apply.result c.args.change.now (world_of c.args.self.now) _ (live_of c.apply.new.self) refl c.apply.ensures.tree

pub invariant_of-self : goal.invariant_of-self
invariant_of-self c = record { whole = ∣ applied_tree c.apply.result c.args.change.now (live_of c.args.self.now.tree) (live_of c.apply.new.self) c.requires c.apply.ensures.tree ∣₁ }
