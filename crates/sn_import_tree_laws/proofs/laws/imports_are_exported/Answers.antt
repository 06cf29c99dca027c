use Rattle.sn_import_tree_laws.proofs.Whole.{imports_are_exported}
use Rattle.sn_import_tree_laws.proofs.laws.imports_are_exported.Goals as goal

pub returns : goal.returns
returns c = imports_are_exported
