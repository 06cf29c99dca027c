use Rattle.sn_plan.proofs.Following.{chosen, not_chosen}
use Rattle.sn_serve_names.proofs.Steps.{after_snapshots}
use Rattle.sn_serve_names.specs.Messages.{makes_child}
use Rattle.sn_serve_names.proofs.making.make_child.Goals as goal

pub returns-then-is_snapshots : goal.returns-then-is_snapshots
unfolding makes_child
returns-then-is_snapshots g c = after_snapshots c.args.parent _ c.is_snapshots.ensures (chosen _ c.if-is_snapshots.true c.make_snapshot.ensures)

pub returns-else-is_snapshots : goal.returns-else-is_snapshots
unfolding makes_child
returns-else-is_snapshots g c = after_snapshots c.args.parent _ c.is_snapshots.ensures (not_chosen _ c.if-is_snapshots.false c.make_owned.ensures)
