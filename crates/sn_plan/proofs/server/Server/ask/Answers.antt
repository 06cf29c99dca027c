use Rattle.sn_plan.specs.Asking.{asks, login_by}
use Rattle.sn_plan.proofs.Following.{passed_on}
use Rattle.sn_plan.proofs.Logins.{is_asked, is_not_asked}
use Rattle.sn_plan.proofs.server.Server.ask.Goals as goal

pub returns-in_err-login : goal.returns-in_err-login
unfolding asks
returns-in_err-login g c = passed_on c.from_residual.result c.in_err-login.field-0.0 c.from_residual.ensures.1
    (is_not_asked g.F.FileSystem.did c.args.self.now (login_by c.args.asker.now) c.login.result _ c.in_err-login.field-0.0 c.login.ensures c.in_err-login.was)

pub returns : goal.returns
unfolding asks
returns g c = is_asked (login_by c.args.asker.now) c.login.result c.in_ok-login.login _ c.login.ensures c.in_ok-login.was c.call_as.ensures
