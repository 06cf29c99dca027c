use Rattle.std.proofs.Common.{refl}
use Rattle.sn_plan.proofs.Following.{chosen, gives_it, not_chosen}
use Rattle.sn_serve_names.proofs.moving.spare.Goals as goal

pub returns-then-keeps : goal.returns-then-keeps
returns-then-keeps g c = chosen _ c.if-keeps.true c.absent.ensures

pub returns-else-keeps : goal.returns-else-keeps
returns-else-keeps g c = not_chosen _ c.if-keeps.false (gives_it refl)
