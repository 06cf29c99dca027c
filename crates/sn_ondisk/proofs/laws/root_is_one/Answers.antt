use Rattle.sn_ondisk.proofs.OneRootLemmas as one
use Rattle.sn_ondisk.proofs.laws.root_is_one.Goals as goal

pub returns-clause-root : goal.returns-clause-root
returns-clause-root c = one.root_is_one

pub returns-clause-newest : goal.returns-clause-newest
returns-clause-newest c = one.newest_is_one

pub returns-clause-shown : goal.returns-clause-shown
returns-clause-shown c = one.shown_is_one
