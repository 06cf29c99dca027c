use Rattle.sn_model.proofs.AllowedLemmas.{change_stays, list_stays, tree_stays}
use Rattle.sn_model.proofs.laws.larger_limits_allow_as_much.Goals as goal

pub returns-clause-trees : goal.returns-clause-trees
returns-clause-trees c = λ less more tree allows. tree_stays less more allows tree

pub returns-clause-changes : goal.returns-clause-changes
returns-clause-changes c = λ less more change tree after allows. change_stays less more allows change tree after

pub returns-clause-lists : goal.returns-clause-lists
returns-clause-lists c = λ less more changes tree after allows. list_stays less more allows changes tree after
