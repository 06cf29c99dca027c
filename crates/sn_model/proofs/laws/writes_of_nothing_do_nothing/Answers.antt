use Rattle.sn_model.proofs.FileCallLemmas.{write_nothing}
use Rattle.sn_model.proofs.laws.writes_of_nothing_do_nothing.Goals as goal

pub returns : goal.returns
returns c = write_nothing
