use Rattle.sn_model.proofs.CallDenialLemmas.{access_denied}
use Rattle.sn_model.proofs.laws.access_is_denied_by_rule.Goals as goal

pub returns : goal.returns
returns c = access_denied
