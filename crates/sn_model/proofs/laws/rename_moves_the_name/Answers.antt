use Rattle.sn_model.proofs.NameLawLemmas.{rename_moves}
use Rattle.sn_model.proofs.laws.rename_moves_the_name.Goals as goal

pub returns : goal.returns
returns c = λ limits world s names others path o some_links whole read e. rename_moves limits world s names others path o some_links whole read e
