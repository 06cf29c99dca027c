use Rattle.sn_model.proofs.DropLemmas.{dropping_tree}
use Rattle.sn_model.proofs.laws.dropping_keeps_the_tree.Goals as goal

pub returns : goal.returns
returns c = dropping_tree
