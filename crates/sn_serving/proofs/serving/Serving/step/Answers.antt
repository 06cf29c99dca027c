use Rattle.std.proofs.Common.{[], ◌∷◌, subst}
use Rattle.sn_model.specs.declared.call.Event.TheVariants.{Step}
use Rattle.sn_run.specs.Servers.{is_stopped, standing}
use Rattle.sn_serving.specs.Served.{Leads, Served, seen}
use Rattle.sn_serving.proofs.ServedLemmas.{answered, means_next}
use Rattle.sn_serving.proofs.serving.Serving.step.Goals as goal

pub invariant_of-self : goal.invariant_of-self
invariant_of-self g c = (c.step.ensures.sound, means_next _ Step c.step.result _ _ _ _ c.self.invariant.1 c.step.ensures.answered)

pub returns : goal.returns
returns g c = λ told.
    (subst (λ (s : Served). Leads (Step ∷ []) (c.step.result ∷ []) s (seen (standing c.step.new.self) (is_stopped c.step.new.self))) c.self.view_is (answered _ Step c.step.result _ _ _ _ c.self.invariant.1 c.step.ensures.answered told))
