use Rattle.std.proofs.Common.{◌∙◌, ℕ, ap, sym}
use Rattle.sn_model.specs.declared.call.Call.TheVariants.{Seek, Write}
use Rattle.sn_plan.specs.Asking.{calls}
use Rattle.sn_plan.proofs.Following.{after, after_given, does_same, fails_given, gives_as, passed_on}
use Rattle.sn_serve_files.specs.Messages.{writes_at}
use Rattle.sn_serve_files.proofs.content.write_at.Goals as goal

pub returns-in_err-sought : goal.returns-in_err-sought
unfolding writes_at
returns-in_err-sought g c = after _ (does_same (ap (λ (s : ℕ). calls s (Seek c.args.file.descriptor c.args.offset)) c.session_of-session.ensures) c.call-at.ensures)
    (passed_on c.from_residual.result c.in_err-sought.field-0.0 c.from_residual.ensures.1 (fails_given _ (sym c.sought.ensures ∙ c.in_err-sought.was)))

pub returns : goal.returns
unfolding writes_at
returns g c = after _ (does_same (ap (λ (s : ℕ). calls s (Seek c.args.file.descriptor c.args.offset)) c.session_of-session.ensures) c.call-at.ensures)
    (after_given _ (sym c.sought.ensures ∙ c.in_ok-sought.was)
    (after _ (does_same (ap (λ (s : ℕ). calls s (Write c.args.file.descriptor c.args.bytes)) c.session_of-session.ensures) c.call-reply.ensures)
    (gives_as c.number.ensures)))
