use Rattle.sn_model.proofs.MachineLemmas.{stopped_stays as stays}
use Rattle.sn_model.proofs.laws.stopped_stays.Goals as goal

pub returns : goal.returns
returns c = stays
