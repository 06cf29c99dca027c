use Rattle.sn_model.proofs.MachineLemmas.{run_world}
use Rattle.sn_model.proofs.laws.runs_keep_the_world.Goals as goal

pub returns : goal.returns
returns c = run_world
