use Rattle.std.proofs.Common.{◌∙◌, sym}
use Rattle.sn_plan.proofs.Following.{chosen, not_chosen, refuses}
use Rattle.sn_serve_files.specs.Messages.{mknod}
use Rattle.sn_serve_files.proofs.creating.mknod.Goals as goal

pub returns-then-is_regular : goal.returns-then-is_regular
unfolding mknod
returns-then-is_regular g c = chosen _ (sym c.is_regular.ensures ∙ c.if-is_regular.true) c.make_node.ensures

pub returns-else-is_regular : goal.returns-else-is_regular
unfolding mknod
returns-else-is_regular g c = not_chosen _ (sym c.is_regular.ensures ∙ c.if-is_regular.false) refuses
