use Rattle.std.proofs.Common.{◌∙◌, ap, sym}
use Rattle.sn_plan.proofs.Following.{does_same, gives_ok}
use Rattle.std.specs.Prelude.{Option}
use Rattle.sn_callers.specs.declared.login.Caller.{Caller}
use Rattle.sn_serve_names.specs.Messages.{gives_owner}
use Rattle.sn_serve_names.proofs.giving.give_owner.Goals as goal

pub returns-in-Some : goal.returns-in-Some
returns-in-Some g c = does_same (ap (λ (m : Option Caller). gives_owner m c.args.parent c.args.path.now) (sym c.in-Some.is ∙ c.maker.ensures)) c.give_to.ensures

pub returns-in-None : goal.returns-in-None
returns-in-None g c = does_same (ap (λ (m : Option Caller). gives_owner m c.args.parent c.args.path.now) (sym c.in-None.is ∙ c.maker.ensures)) (gives_ok g.F.FileSystem.did c.args.server.now tt)
