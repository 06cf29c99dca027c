use Rattle.sn_model.proofs.AccessCallLemmas.{chmod_is}
use Rattle.sn_model.proofs.laws.chmod_sets_the_mode.Goals as goal

pub returns : goal.returns
returns c = chmod_is
