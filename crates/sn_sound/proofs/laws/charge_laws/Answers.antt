use Rattle.sn_sound.proofs.ChargeLemmas.{charged_alike}
use Rattle.sn_sound.proofs.laws.charge_laws.Goals as goal

pub returns : goal.returns
returns c = record { covers = charged_alike }
