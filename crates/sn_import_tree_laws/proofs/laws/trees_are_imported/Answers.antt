use Rattle.sn_import_tree_laws.proofs.Whole.{trees_are_imported}
use Rattle.sn_import_tree_laws.proofs.laws.trees_are_imported.Goals as goal

pub returns : goal.returns
returns c = trees_are_imported
