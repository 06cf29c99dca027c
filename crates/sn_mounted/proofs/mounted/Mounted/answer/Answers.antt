use Rattle.std.proofs.Common.{[], ◌∷◌, ap, subst}
use Rattle.sn_model.specs.declared.call.Event.TheVariants.{Call}
use Rattle.sn_mounted.specs.Shown.{Shown}
use Rattle.sn_serving.specs.Served.{Leads, Served}
use Rattle.sn_mounted.proofs.mounted.Mounted.answer.Goals as goal

pub returns-clause-leads : goal.returns-clause-leads
returns-clause-leads g c = λ told.
    (subst (λ (s : Served). Leads (Call c.args.session c.args.call.now ∷ []) (c.call-reply.result ∷ []) s c.call-reply.new.self) (ap (λ (m : Shown). m.served) c.self.view_is) (c.call-reply.ensures told))
