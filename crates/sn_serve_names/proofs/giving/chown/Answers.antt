use Rattle.std.proofs.Common.{ℕ, List, ap}
use Rattle.std.specs.Prelude.{Some}
use Rattle.sn_model.specs.declared.call.Call.TheVariants.{Chown}
use Rattle.sn_plan.specs.Asking.{calls}
use Rattle.sn_plan.proofs.Following.{after, does_same, gives_as, is_held, is_not_held, takes_it}
use Rattle.sn_serve_names.specs.Messages.{chowns}
use Rattle.sn_serve_names.proofs.giving.chown.Goals as goal

pub returns-in_err-path : goal.returns-in_err-path
unfolding chowns
returns-in_err-path g c = is_not_held c.word.result c.from_residual.result c.word.ensures.err c.in_err-path.was c.from_residual.ensures.1

pub returns : goal.returns
unfolding chowns
returns g c = takes_it (after _
    (does_same (ap (λ (w : List ℕ). calls 0 (Chown w (Some c.args.user) c.args.group)) (is_held c.args.path.now c.word.result c.in_ok-path.path c.word.ensures.word c.in_ok-path.was)) c.call-reply.ensures)
    (gives_as c.done.ensures))
