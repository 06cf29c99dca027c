use Rattle.std.proofs.Common.{◌∙◌, ap, ap₂}
use Rattle.sn_model.specs.declared.call.Call.{Call}
use Rattle.sn_plan.specs.Asking.{login_by}
use Rattle.sn_plan.proofs.Following.{and_then, does_same, gives_as, is_held, is_not_held, stops, takes_it}
use Rattle.sn_serve_files.specs.Messages.{asks_size, open_call, size_at}
use Rattle.sn_serve_files.proofs.sizing.size_at.Goals as goal

pub returns-in_err-path : goal.returns-in_err-path
unfolding size_at
returns-in_err-path g c = is_not_held c.word.result c.from_residual.result c.word.ensures.err c.in_err-path.was c.from_residual.ensures.1

pub returns-in_err-reply : goal.returns-in_err-reply
unfolding size_at
returns-in_err-reply g c = takes_it (stops _ c.from_residual-in_err-reply.result c.from_residual-in_err-reply.ensures.1 (does_same (ap (λ (o : Call). asks_size (login_by c.args.asker.now) o c.args.size) (c.open_call-opening.ensures ∙ ap₂ open_call (is_held c.args.path.now c.word.result c.in_ok-path.path c.word.ensures.word c.in_ok-path.was) c.to_write.ensures)) c.ask_size.ensures) c.in_err-reply.was)

pub returns : goal.returns
unfolding size_at
returns g c = takes_it (and_then _ (does_same (ap (λ (o : Call). asks_size (login_by c.args.asker.now) o c.args.size) (c.open_call-opening.ensures ∙ ap₂ open_call (is_held c.args.path.now c.word.result c.in_ok-path.path c.word.ensures.word c.in_ok-path.was) c.to_write.ensures)) c.ask_size.ensures) c.in_ok-reply.was (gives_as c.done.ensures))
