use Rattle.sn_plan.specs.Asking.{asks_masked, login_by}
use Rattle.sn_plan.proofs.Following.{passed_on}
use Rattle.sn_plan.proofs.Logins.{is_asked, is_not_asked}
use Rattle.sn_plan.proofs.server.Server.ask_masked.Goals as goal

pub returns-in_err-login : goal.returns-in_err-login
unfolding asks_masked
returns-in_err-login g c = passed_on c.from_residual.result c.in_err-login.field-0.0 c.from_residual.ensures.1
    (is_not_asked g.F.FileSystem.did c.args.self.now (login_by c.args.asker.now) c.login.result _ c.in_err-login.field-0.0 c.login.ensures c.in_err-login.was)

pub returns : goal.returns
unfolding asks_masked
returns g c = is_asked (login_by c.args.asker.now) c.login.result c.in_ok-login.login _ c.login.ensures c.in_ok-login.was c.call_masked.ensures
