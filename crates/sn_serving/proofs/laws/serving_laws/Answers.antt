use Rattle.sn_serving.proofs.RunLemmas.{served_is_run}
use Rattle.sn_serving.proofs.laws.serving_laws.Goals as goal

pub returns : goal.returns
returns c = served_is_run
