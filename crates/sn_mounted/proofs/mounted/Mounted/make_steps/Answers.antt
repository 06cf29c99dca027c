use Rattle.std.proofs.Common.{ap, length, replicate, subst}
use Rattle.sn_model.specs.declared.call.Event.TheVariants.{Step}
use Rattle.sn_mounted.specs.Shown.{Shown}
use Rattle.sn_serving.specs.Pacing.{Paces}
use Rattle.sn_serving.specs.Served.{Leads, Served}
use Rattle.sn_mounted.proofs.mounted.Mounted.make_steps.Goals as goal

pub returns-clause-steps : goal.returns-clause-steps
returns-clause-steps g c =
    let k = c.keep_pace.ensures.steps in
    (k.0, λ told. subst (λ (s : Served). Leads (replicate (length k.0) Step) k.0 s c.keep_pace.new.self) (ap (λ (m : Shown). m.served) c.self.view_is) (k.1 told))

pub returns-clause-due : goal.returns-clause-due
returns-clause-due g c = λ told. subst (λ (s : Served). Paces s c.keep_pace.new.self) (ap (λ (m : Shown). m.served) c.self.view_is) (c.keep_pace.ensures.due told)
