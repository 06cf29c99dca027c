use Rattle.sn_model.proofs.TreeLemmas.{tree_kept}
use Rattle.sn_model.proofs.laws.changes_keep_the_tree.Goals as goal

pub returns : goal.returns
returns c = tree_kept
