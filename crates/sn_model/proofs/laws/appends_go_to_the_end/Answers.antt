use Rattle.sn_model.proofs.FileCallLemmas.{appends_at_end}
use Rattle.sn_model.proofs.laws.appends_go_to_the_end.Goals as goal

pub returns : goal.returns
returns c = appends_at_end
