use Rattle.sn_import_tree_laws.proofs.Tops.{tops_are_imported}
use Rattle.sn_import_tree_laws.proofs.laws.tops_are_imported.Goals as goal

pub returns : goal.returns
returns c = tops_are_imported
