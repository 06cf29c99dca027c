use Rattle.std.proofs.Common.{rules}
use Rattle.sn_model.specs.AccessCalls.{access_outcome}
use Rattle.sn_core_decide_access.proofs.asking.access.Goals as goal

pub returns-in_err-found-clause-exact : goal.returns-in_err-found-clause-exact
unfolding access_outcome
returns-in_err-found-clause-exact g c = search rules

pub returns-in_err-live_if-clause-exact : goal.returns-in_err-live_if-clause-exact
unfolding access_outcome
returns-in_err-live_if-clause-exact g c = search rules

pub returns-in_err-granted-clause-exact : goal.returns-in_err-granted-clause-exact
unfolding access_outcome
returns-in_err-granted-clause-exact g c = search rules

pub returns-clause-exact : goal.returns-clause-exact
unfolding access_outcome
returns-clause-exact g c = search rules
