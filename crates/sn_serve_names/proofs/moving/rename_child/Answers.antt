use Rattle.std.proofs.Common.{◌∙◌, ℕ, List, ap₂}
use Rattle.sn_model.specs.declared.call.Call.TheVariants.{Rename}
use Rattle.sn_plan.specs.Asking.{login_by}
use Rattle.sn_plan.proofs.Following.{does_same, is_held, is_not_held, takes_it}
use Rattle.sn_serve_names.specs.Messages.{does}
use Rattle.sn_serve_names.proofs.moving.rename_child.Goals as goal

pub returns-in_err-old : goal.returns-in_err-old
returns-in_err-old g c = is_not_held c.word.result c.from_residual.result c.word.ensures.err c.in_err-old.was c.from_residual.ensures.1

pub returns-in_err-new : goal.returns-in_err-new
returns-in_err-new g c = is_not_held c.word-2.result c.from_residual-in_err-new.result c.word-2.ensures.err c.in_err-new.was c.from_residual-in_err-new.ensures.1

pub returns : goal.returns
returns g c = takes_it (does_same (ap₂ (λ (a b : List ℕ). does (login_by c.args.asker.now) (Rename a b))
    (is_held c.path.result.now c.word.result c.in_ok-old.old c.word.ensures.word c.in_ok-old.was ∙ c.path.ensures)
    (is_held c.path-2.result.now c.word-2.result c.in_ok-new.new c.word-2.ensures.word c.in_ok-new.was ∙ c.path-2.ensures)) c.does.ensures)
