use Rattle.std.proofs.Common.{ap}
use Rattle.sn_callers.specs.declared.login.Caller.{Caller}
use Rattle.sn_plan.specs.Asking.{login_by}
use Rattle.sn_plan.proofs.Following.{and_then, does_same, stops}
use Rattle.sn_serve.specs.Messages.{setattr}
use Rattle.sn_serve_setattr.specs.Messages.{set_attributes}
use Rattle.sn_serve.proofs.performing.setattr.Goals as goal

pub returns-in_err-there : goal.returns-in_err-there
unfolding setattr
returns-in_err-there g c = stops _ c.from_residual.result c.from_residual.ensures.1 c.getattr.ensures c.in_err-there.was

pub returns-in_err-set_attributes : goal.returns-in_err-set_attributes
unfolding setattr
returns-in_err-set_attributes g c = and_then _ c.getattr.ensures c.in_ok-there.was
    (stops _ c.from_residual-in_err-set_attributes.result c.from_residual-in_err-set_attributes.ensures.1
    (does_same (ap (λ (who : Caller). set_attributes (login_by c.args.asker.now) who.user c.args.node c.in_ok-there.there c.args.new.now) c.caller-user.ensures) c.set_attributes.ensures)
    c.in_err-set_attributes.was)

pub returns : goal.returns
unfolding setattr
returns g c = and_then _ c.getattr.ensures c.in_ok-there.was
    (and_then _ (does_same (ap (λ (who : Caller). set_attributes (login_by c.args.asker.now) who.user c.args.node c.in_ok-there.there c.args.new.now) c.caller-user.ensures) c.set_attributes.ensures)
    c.in_ok-set_attributes.was c.getattr-2.ensures)
