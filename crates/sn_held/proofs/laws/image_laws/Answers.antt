use Rattle.sn_held.proofs.EventLemmas.{images_one, runs_show}
use Rattle.sn_held.proofs.laws.image_laws.Goals as goal

pub returns-clause-one : goal.returns-clause-one
returns-clause-one c = images_one

pub returns-clause-show : goal.returns-clause-show
returns-clause-show c = runs_show
