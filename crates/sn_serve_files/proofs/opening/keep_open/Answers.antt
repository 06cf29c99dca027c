use Rattle.std.proofs.Common.{◌∙◌, ℕ, List, ap, ap₂, sym}
use Rattle.sn_plan.specs.Asking.{calls}
use Rattle.sn_plan.proofs.Following.{after, after_given, does_same, fails_given, is_held, is_not_held, passed_on, takes_it}
use Rattle.sn_serve_files.specs.Messages.{keeps_open, open_call}
use Rattle.sn_serve_files.proofs.opening.keep_open.Goals as goal

pub returns-in_err-path : goal.returns-in_err-path
unfolding keeps_open
returns-in_err-path g c = is_not_held c.word.result c.from_residual.result c.word.ensures.err c.in_err-path.was c.from_residual.ensures.1

pub returns-in_err-descriptor : goal.returns-in_err-descriptor
unfolding keeps_open
returns-in_err-descriptor g c = takes_it (after _ (does_same (ap₂ calls c.session_of.ensures (c.open_call.ensures ∙ ap (λ (w : List ℕ). open_call w c.args.flags) (is_held c.args.path.now c.word.result c.in_ok-path.path c.word.ensures.word c.in_ok-path.was))) c.call-reply.ensures)
    (passed_on c.from_residual-in_err-descriptor.result c.in_err-descriptor.field-0.0 c.from_residual-in_err-descriptor.ensures.1 (fails_given _ (sym c.number.ensures ∙ c.in_err-descriptor.was))))

pub returns : goal.returns
unfolding keeps_open
returns g c = takes_it (after _ (does_same (ap₂ calls c.session_of.ensures (c.open_call.ensures ∙ ap (λ (w : List ℕ). open_call w c.args.flags) (is_held c.args.path.now c.word.result c.in_ok-path.path c.word.ensures.word c.in_ok-path.was))) c.call-reply.ensures)
    (after_given _ (sym c.number.ensures ∙ c.in_ok-descriptor.was) c.get_handle.ensures))
