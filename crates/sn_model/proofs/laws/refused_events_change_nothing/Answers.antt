use Rattle.sn_model.proofs.MachineLemmas.{refused_same}
use Rattle.sn_model.proofs.laws.refused_events_change_nothing.Goals as goal

pub returns : goal.returns
returns c = refused_same
