use Rattle.sn_overlay_change.proofs.CountLemmas.{changes_need}
use Rattle.sn_overlay_change.proofs.laws.changes_need.Goals as goal

pub returns : goal.returns
returns c = changes_need
