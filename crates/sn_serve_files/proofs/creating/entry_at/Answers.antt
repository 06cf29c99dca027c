use Rattle.sn_plan.proofs.Following.{chosen, not_chosen}
use Rattle.sn_serve_files.proofs.creating.entry_at.Goals as goal

pub returns-then-was_there : goal.returns-then-was_there
returns-then-was_there g c = chosen _ c.if-was_there.true c.met.ensures

pub returns-else-was_there : goal.returns-else-was_there
returns-else-was_there g c = not_chosen _ c.if-was_there.false c.made_at.ensures
