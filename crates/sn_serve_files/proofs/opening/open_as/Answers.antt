use Rattle.std.proofs.Common.{◌∙◌, ℕ, List, ap}
use Rattle.sn_plan.specs.Asking.{asks, login_by}
use Rattle.sn_plan.proofs.Following.{and_then, does_same, gives_as, is_held, is_not_held, stops, takes_it}
use Rattle.sn_serve_files.specs.Messages.{open_call, opens_as}
use Rattle.sn_serve_files.proofs.opening.open_as.Goals as goal

pub returns-in_err-path : goal.returns-in_err-path
unfolding opens_as
returns-in_err-path g c = is_not_held c.word.result c.from_residual.result c.word.ensures.err c.in_err-path.was c.from_residual.ensures.1

pub returns-in_err-reply : goal.returns-in_err-reply
unfolding opens_as
returns-in_err-reply g c = takes_it (stops _ c.from_residual-in_err-reply.result c.from_residual-in_err-reply.ensures.1 (does_same (ap (asks (login_by c.args.asker.now)) (c.open_call.ensures ∙ ap (λ (w : List ℕ). open_call w c.args.flags) (is_held c.args.path.now c.word.result c.in_ok-path.path c.word.ensures.word c.in_ok-path.was))) c.ask.ensures) c.in_err-reply.was)

pub returns : goal.returns
unfolding opens_as
returns g c = takes_it (and_then _ (does_same (ap (asks (login_by c.args.asker.now)) (c.open_call.ensures ∙ ap (λ (w : List ℕ). open_call w c.args.flags) (is_held c.args.path.now c.word.result c.in_ok-path.path c.word.ensures.word c.in_ok-path.was))) c.ask.ensures) c.in_ok-reply.was (gives_as c.numbered.ensures))
