use Rattle.std.proofs.Common.{◌∙◌, sym}
use Rattle.sn_plan.proofs.Following.{chosen, not_chosen, refuses}
use Rattle.sn_serve_directories.specs.Entries.{entry_at}
use Rattle.sn_serve_directories.proofs.entry.entry_at.Goals as goal

pub returns-then-is_name : goal.returns-then-is_name
unfolding entry_at
returns-then-is_name g c = chosen _ (sym c.is_name.ensures ∙ c.if-is_name.true) c.named_entry.ensures

pub returns-else-is_name : goal.returns-else-is_name
unfolding entry_at
returns-else-is_name g c = not_chosen _ (sym c.is_name.ensures ∙ c.if-is_name.false) refuses
