use Rattle.sn_changed.proofs.DroppedLemmas.{callers_drop, each_merges, without_is}
use Rattle.sn_changed.proofs.NeedLemmas.{drops_need}
use Rattle.sn_changed.proofs.laws.dropped_laws.Goals as goal

pub returns-clause-merged : goal.returns-clause-merged
returns-clause-merged c = each_merges

pub returns-clause-left : goal.returns-clause-left
returns-clause-left c = without_is

pub returns-clause-caller : goal.returns-clause-caller
returns-clause-caller c = callers_drop

pub returns-clause-need : goal.returns-clause-need
returns-clause-need c = drops_need
