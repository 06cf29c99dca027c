use Rattle.sn_overlay_change.proofs.NamesLemmas.{changes_count}
use Rattle.sn_overlay_change.proofs.laws.changes_count.Goals as goal

pub returns : goal.returns
returns c = changes_count
