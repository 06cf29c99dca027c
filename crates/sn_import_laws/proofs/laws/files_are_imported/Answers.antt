use Rattle.sn_import_laws.proofs.Imports.{files_are_imported}
use Rattle.sn_import_laws.proofs.laws.files_are_imported.Goals as goal

pub returns : goal.returns
returns c = files_are_imported
