use Rattle.sn_model.proofs.NameLawLemmas.{link_adds}
use Rattle.sn_model.proofs.laws.link_gives_one_more_name.Goals as goal

pub returns : goal.returns
returns c = λ limits world s names others path o read e. link_adds limits world s names others path o read e
