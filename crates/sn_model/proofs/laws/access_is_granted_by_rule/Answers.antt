use Rattle.sn_model.proofs.AccessDenialLemmas.{grants}
use Rattle.sn_model.proofs.laws.access_is_granted_by_rule.Goals as goal

pub returns : goal.returns
returns c = grants
