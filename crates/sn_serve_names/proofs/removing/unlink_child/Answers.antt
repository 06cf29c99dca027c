use Rattle.std.proofs.Common.{◌∙◌, ℕ, List, ap}
use Rattle.sn_model.specs.declared.call.Call.TheVariants.{Unlink}
use Rattle.sn_plan.specs.Asking.{login_by}
use Rattle.sn_plan.proofs.Following.{chosen, does_same, is_held, is_not_held, not_chosen, refuses, takes_it}
use Rattle.sn_serve_names.proofs.Steps.{after_snapshots}
use Rattle.sn_serve_names.specs.Messages.{does, unlinks}
use Rattle.sn_serve_names.proofs.removing.unlink_child.Goals as goal

pub returns-then-is_snapshots : goal.returns-then-is_snapshots
unfolding unlinks
returns-then-is_snapshots g c = after_snapshots c.args.parent _ c.is_snapshots.ensures (chosen _ c.if-is_snapshots.true refuses)

pub returns-in_err-path : goal.returns-in_err-path
unfolding unlinks
returns-in_err-path g c = after_snapshots c.args.parent _ c.is_snapshots.ensures (not_chosen _ c.if-is_snapshots.false
    (is_not_held c.word.result c.from_residual.result c.word.ensures.err c.in_err-path.was c.from_residual.ensures.1))

pub returns : goal.returns
unfolding unlinks
returns g c = after_snapshots c.args.parent _ c.is_snapshots.ensures (not_chosen _ c.if-is_snapshots.false
    (takes_it (does_same (ap (λ (w : List ℕ). does (login_by c.args.asker.now) (Unlink w)) (is_held c.path.result.now c.word.result c.in_ok-path.path c.word.ensures.word c.in_ok-path.was ∙ c.path.ensures)) c.does.ensures)))
