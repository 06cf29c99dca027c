use Rattle.std.proofs.Common.{refl}
use Rattle.sn_plan.proofs.Following.{chosen, gives_it, not_chosen}
use Rattle.sn_serve_directories.specs.Messages.{read_if}
use Rattle.sn_serve_directories.proofs.reading.read_if.Goals as goal

pub returns-then-is_due : goal.returns-then-is_due
unfolding read_if
returns-then-is_due g c = chosen _ c.if-is_due.true c.read_anew.ensures

pub returns-else-is_due : goal.returns-else-is_due
unfolding read_if
returns-else-is_due g c = not_chosen _ c.if-is_due.false (gives_it refl)
