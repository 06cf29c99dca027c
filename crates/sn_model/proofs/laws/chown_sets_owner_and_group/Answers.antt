use Rattle.sn_model.proofs.AccessCallLemmas.{chown_is}
use Rattle.sn_model.proofs.laws.chown_sets_owner_and_group.Goals as goal

pub returns : goal.returns
returns c = chown_is
