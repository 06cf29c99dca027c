use Rattle.std.proofs.Common.{◌∙◌, ℕ, List, ap}
use Rattle.sn_model.specs.declared.call.Call.TheVariants.{SnapCreate}
use Rattle.sn_plan.specs.Asking.{login_by}
use Rattle.sn_plan.proofs.Following.{does_same, is_held, is_not_held, takes_it}
use Rattle.sn_serve_names.specs.Messages.{does, makes_snapshot}
use Rattle.sn_serve_names.proofs.making.make_snapshot.Goals as goal

pub returns-in_err-name : goal.returns-in_err-name
unfolding makes_snapshot
returns-in_err-name g c = is_not_held c.word.result c.from_residual.result c.word.ensures.err c.in_err-name.was c.from_residual.ensures.1

pub returns : goal.returns
unfolding makes_snapshot
returns g c = takes_it (does_same (ap (λ (w : List ℕ). does (login_by c.args.asker.now) (SnapCreate w)) (is_held c.name.result.now c.word.result c.in_ok-name.name c.word.ensures.word c.in_ok-name.was ∙ c.name.ensures)) c.does.ensures)
