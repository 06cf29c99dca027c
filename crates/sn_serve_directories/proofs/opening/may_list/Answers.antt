use Rattle.std.proofs.Common.{ap, refl}
use Rattle.sn_plan.specs.Asking.{login_by}
use Rattle.sn_plan.proofs.Following.{after, does_same, fails, gives_it, passed_on}
use Rattle.sn_plan.proofs.Looked.{told_error, told_none, told_text}
use Rattle.sn_serve_directories.specs.Messages.{lists, may_list}
use Rattle.sn_serve_directories.proofs.opening.may_list.Goals as goal

pub returns-in_err-place : goal.returns-in_err-place
unfolding may_list
returns-in_err-place g c = passed_on c.from_residual.result c.in_err-place.field-0.0 c.from_residual.ensures.1 (fails _ (told_error c.place.ensures c.in_err-place.was))

pub returns-in_default : goal.returns-in_default
unfolding may_list
returns-in_default g c = after _ (told_none c.place.ensures c.in_ok-place.was c.in_default.not-Some) (gives_it refl)

pub returns : goal.returns
unfolding may_list
returns g c = after _ (told_text c.place.ensures c.in_ok-place.was c.in-Some.is)
    (does_same (ap (lists (login_by c.args.asker.now)) c.as_slice.ensures.value) c.lists.ensures)
