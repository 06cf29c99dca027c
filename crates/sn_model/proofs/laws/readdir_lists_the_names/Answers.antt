use Rattle.sn_model.proofs.NameLawLemmas.{readdir_lists}
use Rattle.sn_model.proofs.laws.readdir_lists_the_names.Goals as goal

pub returns : goal.returns
returns c = λ limits world s names o e. readdir_lists limits world s names o e
