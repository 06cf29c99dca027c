use Rattle.sn_overlay_change.proofs.ChangeWholeLemmas.{changes_are_whole}
use Rattle.sn_overlay_change.proofs.laws.changes_are_layers.Goals as goal

pub returns : goal.returns
returns c = changes_are_whole
