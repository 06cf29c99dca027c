use Rattle.std.proofs.Common.{ap}
use Rattle.sn_plan.specs.Asking.{login_by}
use Rattle.sn_plan.proofs.Following.{after_known, chosen, does_same, not_chosen}
use Rattle.sn_serve_names.specs.Entries.{status_at}
use Rattle.sn_serve_names.specs.Messages.{is_known, status_as, status_of}
use Rattle.sn_serve_names.proofs.looking.status_of.Goals as goal

pub returns-then-is_known : goal.returns-then-is_known
unfolding status_of
returns-then-is_known g c = after_known (is_known c.args.parent c.args.child.now) _ c.is_known.ensures
    (chosen _ c.if-is_known.true (does_same (ap status_at c.path.ensures) c.status_at.ensures))

pub returns-else-is_known : goal.returns-else-is_known
unfolding status_of
returns-else-is_known g c = after_known (is_known c.args.parent c.args.child.now) _ c.is_known.ensures
    (not_chosen _ c.if-is_known.false (does_same (ap (status_as (login_by c.args.asker.now)) c.path-else-is_known.ensures) c.status_as.ensures))
