use Rattle.sn_model.proofs.BringLemmas.{change_brings}
use Rattle.sn_model.proofs.laws.changes_bring.Goals as goal

pub returns : goal.returns
returns c = change_brings
