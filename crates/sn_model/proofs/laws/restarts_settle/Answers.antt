use Rattle.sn_model.proofs.MachineLemmas.{restarts_settle as settles}
use Rattle.sn_model.proofs.laws.restarts_settle.Goals as goal

pub returns : goal.returns
returns c = settles
