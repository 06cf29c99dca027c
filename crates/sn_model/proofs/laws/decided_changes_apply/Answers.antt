use Rattle.sn_model.proofs.DecidedLemmas.{decided_applies}
use Rattle.sn_model.proofs.laws.decided_changes_apply.Goals as goal

pub returns : goal.returns
returns c = decided_applies
