use Rattle.sn_model.proofs.FileCallLemmas.{read_refuses}
use Rattle.sn_model.proofs.laws.reads_ask_for_no_right.Goals as goal

pub returns : goal.returns
returns c = read_refuses
