use Rattle.sn_changed.proofs.DecidedLemmas.{decided_give_no_first_name, logged_keep_nameless, logged_keep_open, logged_stay_nameless}
use Rattle.sn_changed.proofs.HoldsLemmas.{kept_open_stay}
use Rattle.sn_changed.proofs.laws.decided_laws.Goals as goal

pub returns-clause-names : goal.returns-clause-names
returns-clause-names c = λ limits world session call o number hierarchy decided free. decided_give_no_first_name limits world session call o decided number hierarchy free

pub returns-clause-kept : goal.returns-clause-kept
returns-clause-kept c = λ limits world session call o whole decided logged. logged_keep_open limits world session call o decided whole logged

pub returns-clause-held : goal.returns-clause-held
returns-clause-held c = kept_open_stay

pub returns-clause-nameless : goal.returns-clause-nameless
returns-clause-nameless c = logged_stay_nameless

pub returns-clause-counted : goal.returns-clause-counted
returns-clause-counted c = logged_keep_nameless
