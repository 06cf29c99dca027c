use Rattle.sn_model.proofs.AccessCallLemmas.{setacl_is}
use Rattle.sn_model.proofs.laws.setacl_sets_one_acl.Goals as goal

pub returns : goal.returns
returns c = setacl_is
