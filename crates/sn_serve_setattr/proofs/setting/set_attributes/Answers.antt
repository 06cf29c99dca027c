use Rattle.sn_plan.proofs.Following.{and_then, stops}
use Rattle.sn_serve_setattr.specs.Messages.{set_attributes}
use Rattle.sn_serve_setattr.proofs.setting.set_attributes.Goals as goal

pub returns-in_err-permit_times : goal.returns-in_err-permit_times
unfolding set_attributes
returns-in_err-permit_times g c = stops _ c.from_residual.result c.from_residual.ensures.1 c.permit_times.ensures c.in_err-permit_times.was

pub returns-in_err-set_size : goal.returns-in_err-set_size
unfolding set_attributes
returns-in_err-set_size g c = and_then _ c.permit_times.ensures c.in_ok-permit_times.was
    (stops _ c.from_residual-in_err-set_size.result c.from_residual-in_err-set_size.ensures.1 c.set_size.ensures c.in_err-set_size.was)

pub returns-in_err-set_owner : goal.returns-in_err-set_owner
unfolding set_attributes
returns-in_err-set_owner g c = and_then _ c.permit_times.ensures c.in_ok-permit_times.was (and_then _ c.set_size.ensures c.in_ok-set_size.was
    (stops _ c.from_residual-in_err-set_owner.result c.from_residual-in_err-set_owner.ensures.1 c.set_owner.ensures c.in_err-set_owner.was))

pub returns : goal.returns
unfolding set_attributes
returns g c = and_then _ c.permit_times.ensures c.in_ok-permit_times.was (and_then _ c.set_size.ensures c.in_ok-set_size.was
    (and_then _ c.set_owner.ensures c.in_ok-set_owner.was c.set_mode.ensures))
