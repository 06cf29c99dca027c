use Rattle.sn_model.proofs.DecidedLemmas.{decided_is}
use Rattle.sn_model.proofs.laws.decided_changes_pay.Goals as goal

pub returns : goal.returns
returns c = λ limits world session call o e. (decided_is limits world session call o e).pays
