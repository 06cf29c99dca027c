use Rattle.sn_logged.proofs.ChargeLemmas.{few_charged}
use Rattle.sn_logged.proofs.charging.change_charge.Goals as goal

pub returns-clause-few : goal.returns-clause-few
returns-clause-few g c = few_charged c.args.limits.now c.requires.version c.charge.result c.charge.ensures.most
