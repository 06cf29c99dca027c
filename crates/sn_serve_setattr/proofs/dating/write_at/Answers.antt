use Rattle.std.proofs.Common.{ℕ, List, ap}
use Rattle.std.specs.Prelude.{true, false}
use Rattle.sn_model.specs.declared.call.Call.TheVariants.{Access as AccessCall}
use Rattle.sn_plan.specs.Asking.{login_by}
use Rattle.sn_plan.proofs.Following.{does_same, is_held, is_not_held, takes_it}
use Rattle.sn_serve_names.specs.Messages.{does}
use Rattle.sn_serve_setattr.proofs.dating.write_at.Goals as goal

pub returns-in_err-path : goal.returns-in_err-path
returns-in_err-path g c = is_not_held c.word.result c.from_residual.result c.word.ensures.err c.in_err-path.was c.from_residual.ensures.1

pub returns : goal.returns
returns g c = takes_it (does_same (ap (λ (w : List ℕ). does (login_by c.args.asker.now) (AccessCall w (record { read = false; write = true; execute = false })))
    (is_held c.args.path.now c.word.result c.in_ok-path.path c.word.ensures.word c.in_ok-path.was)) c.does.ensures)
