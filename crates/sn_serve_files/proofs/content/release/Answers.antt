use Rattle.std.proofs.Common.{ℕ, ap}
use Rattle.sn_model.specs.declared.call.Call.TheVariants.{Close}
use Rattle.sn_plan.specs.Asking.{calls}
use Rattle.sn_plan.proofs.Following.{after, and_then, does_same, gives_as, stops}
use Rattle.sn_serve_files.specs.Messages.{release}
use Rattle.sn_serve_files.proofs.content.release.Goals as goal

pub returns-in_err-file : goal.returns-in_err-file
unfolding release
returns-in_err-file g c = stops _ c.from_residual.result c.from_residual.ensures.1 c.open_file.ensures.does c.in_err-file.was

pub returns : goal.returns
unfolding release
returns g c = and_then _ c.open_file.ensures.does c.in_ok-file.was
    (after _ (does_same (ap (λ (s : ℕ). calls s (Close c.in_ok-file.file.descriptor)) c.session_of.ensures) c.call-reply.ensures)
    (after _ c.close.ensures (gives_as c.done.ensures)))
