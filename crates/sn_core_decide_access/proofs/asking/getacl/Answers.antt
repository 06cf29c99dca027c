use Rattle.std.proofs.Common.{rules}
use Rattle.sn_model.specs.AccessCalls.{getacl_outcome}
use Rattle.sn_core_decide_access.proofs.asking.getacl.Goals as goal

pub returns-in_err-found-clause-exact : goal.returns-in_err-found-clause-exact
unfolding getacl_outcome
returns-in_err-found-clause-exact g c = search rules

pub returns-in_err-has_acl-clause-exact : goal.returns-in_err-has_acl-clause-exact
unfolding getacl_outcome
returns-in_err-has_acl-clause-exact g c = search rules
