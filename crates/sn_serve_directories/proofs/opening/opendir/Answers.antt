use Rattle.std.proofs.Common.{refl}
use Rattle.sn_plan.proofs.Following.{after, and_then, gives_it, lacking, stops, takes_it}
use Rattle.sn_serve_directories.specs.Messages.{opendir}
use Rattle.sn_serve_directories.proofs.opening.opendir.Goals as goal

pub returns-in_err-may_list-clause-plan : goal.returns-in_err-may_list-clause-plan
unfolding opendir
returns-in_err-may_list-clause-plan g c = (0, stops _ c.from_residual.result c.from_residual.ensures.1 c.may_list.ensures c.in_err-may_list.was)

pub returns-in_default-clause-plan : goal.returns-in_default-clause-plan
unfolding opendir
returns-in_default-clause-plan g c = (0, and_then _ c.may_list.ensures c.in_ok-may_list.was (lacking refl))

pub returns-clause-plan : goal.returns-clause-plan
unfolding opendir
returns-clause-plan g c = (c.in-Ok.handle, and_then _ c.may_list.ensures c.in_ok-may_list.was (takes_it (after _ c.hold.ensures (gives_it refl))))
