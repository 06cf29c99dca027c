use Rattle.sn_import_laws.proofs.Rights.{directories_get_rights}
use Rattle.sn_import_laws.proofs.laws.directories_get_rights.Goals as goal

pub returns : goal.returns
returns c = directories_get_rights
