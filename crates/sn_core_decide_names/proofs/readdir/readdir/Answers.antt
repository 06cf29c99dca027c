use Rattle.std.proofs.Common.{rules}
use Rattle.sn_model.specs.NameCalls.{readdir_outcome}
use Rattle.sn_core_decide_names.proofs.readdir.readdir.Goals as goal

pub returns-in_err-found-clause-exact : goal.returns-in_err-found-clause-exact
unfolding readdir_outcome
returns-in_err-found-clause-exact g c = search rules

pub returns-in_err-is_listable-clause-exact : goal.returns-in_err-is_listable-clause-exact
unfolding readdir_outcome
returns-in_err-is_listable-clause-exact g c = search rules

pub returns-in_err-granted-clause-exact : goal.returns-in_err-granted-clause-exact
unfolding readdir_outcome
returns-in_err-granted-clause-exact g c = search rules

pub returns-clause-exact : goal.returns-clause-exact
unfolding readdir_outcome
returns-clause-exact g c = search rules
