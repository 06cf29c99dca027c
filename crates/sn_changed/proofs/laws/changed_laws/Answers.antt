use Rattle.sn_changed.proofs.ChangedLemmas.{builds_fit, changes_merge, drops_merge, nothing_changed}
use Rattle.sn_changed.proofs.laws.changed_laws.Goals as goal

pub returns-clause-nothing : goal.returns-clause-nothing
returns-clause-nothing c = nothing_changed

pub returns-clause-changes : goal.returns-clause-changes
returns-clause-changes c = changes_merge c.changes_are_paid.ensures

pub returns-clause-drops : goal.returns-clause-drops
returns-clause-drops c = drops_merge

pub returns-clause-fit : goal.returns-clause-fit
returns-clause-fit c = builds_fit
