use Rattle.std.proofs.Common.{rules}
use Rattle.sn_model.specs.Calls.{stat_outcome}
use Rattle.sn_core_decide_access.proofs.asking.stat.Goals as goal

pub returns-in_err-found-clause-exact : goal.returns-in_err-found-clause-exact
unfolding stat_outcome
returns-in_err-found-clause-exact g c = search rules

pub returns-clause-exact : goal.returns-clause-exact
unfolding stat_outcome
returns-clause-exact g c = search rules
