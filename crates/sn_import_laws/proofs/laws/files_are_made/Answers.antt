use Rattle.sn_import_laws.proofs.Files.{files_are_made}
use Rattle.sn_import_laws.proofs.laws.files_are_made.Goals as goal

pub returns : goal.returns
returns c = files_are_made
