use Rattle.std.proofs.Common.{[], ◌∷◌, subst}
use Rattle.sn_model.specs.declared.call.Event.TheVariants.{Call}
use Rattle.sn_run.specs.Servers.{is_stopped, standing}
use Rattle.sn_serving.specs.Served.{Leads, Served, seen}
use Rattle.sn_serving.proofs.ServedLemmas.{answered, means_next}
use Rattle.sn_serving.proofs.serving.Serving.call.Goals as goal

pub invariant_of-self : goal.invariant_of-self
invariant_of-self g c = (c.call.ensures.sound, means_next _ (Call c.args.session c.args.call.now) c.call.result _ _ _ _ c.self.invariant.1 c.call.ensures.answered)

pub returns : goal.returns
returns g c = λ told.
    (let e = Call c.args.session c.args.call.now in
    subst (λ (s : Served). Leads (e ∷ []) (c.call.result ∷ []) s (seen (standing c.call.new.self) (is_stopped c.call.new.self))) c.self.view_is (answered _ e c.call.result _ _ _ _ c.self.invariant.1 c.call.ensures.answered told))
