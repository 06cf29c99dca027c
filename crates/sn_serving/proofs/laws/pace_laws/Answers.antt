use Rattle.sn_serving.proofs.PaceLemmas.{points_end}
use Rattle.sn_serving.proofs.laws.pace_laws.Goals as goal

pub returns : goal.returns
returns c = points_end
