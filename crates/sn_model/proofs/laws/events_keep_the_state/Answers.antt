use Rattle.sn_model.proofs.MachineLemmas.{events_keep}
use Rattle.sn_model.proofs.laws.events_keep_the_state.Goals as goal

pub returns : goal.returns
returns c = events_keep
