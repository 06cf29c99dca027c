use Rattle.sn_overlay_change.proofs.WriteLemmas.{writes_show}
use Rattle.sn_overlay_change.proofs.laws.writes_show.Goals as goal

pub returns : goal.returns
returns c = writes_show
