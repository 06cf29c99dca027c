use Rattle.sn_model.proofs.FileCallLemmas.{read_past}
use Rattle.sn_model.proofs.laws.reads_past_the_end_give_nothing.Goals as goal

pub returns : goal.returns
returns c = read_past
