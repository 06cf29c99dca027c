use Rattle.sn_import_laws.proofs.Named.{directories_are_imported}
use Rattle.sn_import_laws.proofs.laws.directories_are_imported.Goals as goal

pub returns : goal.returns
returns c = directories_are_imported
