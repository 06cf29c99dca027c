use Rattle.sn_model.proofs.ListLemmas.{lists_keep}
use Rattle.sn_model.proofs.laws.lists_keep_the_tree.Goals as goal

pub returns : goal.returns
returns c = lists_keep
