use Rattle.std.proofs.Common.{◌∙◌, ℕ, ap, ap₂, sym}
use Rattle.sn_model.specs.declared.call.Call.TheVariants.{Read, Seek}
use Rattle.sn_plan.specs.Asking.{calls}
use Rattle.sn_plan.proofs.Following.{after, after_given, and_then, does_same, fails_given, gives_as, passed_on, stops}
use Rattle.sn_serve_files.specs.Messages.{read}
use Rattle.sn_serve_files.proofs.content.read.Goals as goal

pub returns-in_err-file : goal.returns-in_err-file
unfolding read
returns-in_err-file g c = stops _ c.from_residual.result c.from_residual.ensures.1 c.open_file.ensures.does c.in_err-file.was

pub returns-in_err-numbered : goal.returns-in_err-numbered
unfolding read
returns-in_err-numbered g c = and_then _ c.open_file.ensures.does c.in_ok-file.was
    (after _ (does_same (ap (λ (s : ℕ). calls s (Seek c.in_ok-file.file.descriptor c.args.offset)) c.session_of-session.ensures) c.call-at.ensures)
    (passed_on c.from_residual-in_err-numbered.result c.in_err-numbered.field-0.0 c.from_residual-in_err-numbered.ensures.1 (fails_given _ (sym c.numbered.ensures ∙ c.in_err-numbered.was))))

pub returns : goal.returns
unfolding read
returns g c = and_then _ c.open_file.ensures.does c.in_ok-file.was
    (after _ (does_same (ap (λ (s : ℕ). calls s (Seek c.in_ok-file.file.descriptor c.args.offset)) c.session_of-session.ensures) c.call-at.ensures)
    (after_given _ (sym c.numbered.ensures ∙ c.in_ok-numbered.was)
    (after _ (does_same (ap₂ (λ (s n : ℕ). calls s (Read c.in_ok-file.file.descriptor n)) c.session_of-session.ensures c.count_of-count.ensures) c.call-reply.ensures)
    (gives_as c.content.ensures))))
