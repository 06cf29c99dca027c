use Rattle.sn_model.specs.World.{new_world}
use Rattle.sn_core_decide_rules.proofs.callers.logged_in.Goals as goal

pub returns : goal.returns
returns c = c.logged_in.ensures new_world
