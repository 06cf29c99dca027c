use Rattle.sn_model.proofs.BroughtBackLemmas.{brings_back}
use Rattle.sn_model.proofs.RestoreLemmas.{restored_beside, restored_world}
use Rattle.sn_model.proofs.laws.restores_bring_back.Goals as goal

pub returns-clause-brings : goal.returns-clause-brings
returns-clause-brings c = λ limits old new session name whole step. brings_back limits old new session name whole step

pub returns-clause-world : goal.returns-clause-world
returns-clause-world c = λ limits world name whole none_open. restored_world limits world name whole none_open

pub returns-clause-beside : goal.returns-clause-beside
returns-clause-beside c = restored_beside
