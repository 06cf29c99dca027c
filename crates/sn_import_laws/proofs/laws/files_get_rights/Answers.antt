use Rattle.sn_import_laws.proofs.Rights.{files_get_rights}
use Rattle.sn_import_laws.proofs.laws.files_get_rights.Goals as goal

pub returns : goal.returns
returns c = files_get_rights
