use Rattle.sn_inode.proofs.ChangeLawLemmas.{changed_acls_fit, reserved_stay}
use Rattle.sn_inode.proofs.laws.change_laws.Goals as goal

pub returns-clause-acls : goal.returns-clause-acls
returns-clause-acls c = changed_acls_fit

pub returns-clause-reserved : goal.returns-clause-reserved
returns-clause-reserved c = reserved_stay
