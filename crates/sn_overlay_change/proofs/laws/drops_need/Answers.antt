use Rattle.sn_overlay_change.proofs.DropLemmas.{drops_need}
use Rattle.sn_overlay_change.proofs.laws.drops_need.Goals as goal

pub returns : goal.returns
returns c = drops_need
