use Rattle.sn_overlay_change.proofs.ShownLemmas.{changes_show}
use Rattle.sn_overlay_change.proofs.laws.changes_show.Goals as goal

pub returns : goal.returns
returns c = changes_show
