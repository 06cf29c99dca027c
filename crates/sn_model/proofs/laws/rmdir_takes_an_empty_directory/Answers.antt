use Rattle.sn_model.proofs.NameLawLemmas.{rmdir_takes}
use Rattle.sn_model.proofs.laws.rmdir_takes_an_empty_directory.Goals as goal

pub returns : goal.returns
returns c = λ limits world s names o e. rmdir_takes limits world s names o e
