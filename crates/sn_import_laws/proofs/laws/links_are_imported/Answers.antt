use Rattle.sn_import_laws.proofs.Named.{links_are_imported}
use Rattle.sn_import_laws.proofs.laws.links_are_imported.Goals as goal

pub returns : goal.returns
returns c = links_are_imported
