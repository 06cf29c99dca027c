use Rattle.sn_cp_nodes.proofs.DirectoryLemmas.{directories_seen}
use Rattle.sn_cp_nodes.proofs.FileLemmas.{files_seen}
use Rattle.sn_cp_nodes.proofs.laws.content_laws.Goals as goal

pub returns-clause-files : goal.returns-clause-files
returns-clause-files c = files_seen

pub returns-clause-directories : goal.returns-clause-directories
returns-clause-directories c = directories_seen
