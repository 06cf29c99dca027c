use Rattle.sn_model.proofs.MachineLemmas.{lives_keep}
use Rattle.sn_model.proofs.laws.lives_keep_the_world.Goals as goal

pub returns : goal.returns
returns c = lives_keep
