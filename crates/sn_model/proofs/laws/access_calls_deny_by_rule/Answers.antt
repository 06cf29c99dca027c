use Rattle.sn_model.proofs.AccessDenialLemmas.{denies}
use Rattle.sn_model.proofs.laws.access_calls_deny_by_rule.Goals as goal

pub returns : goal.returns
returns c = denies
