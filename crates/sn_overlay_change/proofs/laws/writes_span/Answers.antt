use Rattle.sn_overlay_change.proofs.SpliceLemmas.{writes_span}
use Rattle.sn_overlay_change.proofs.laws.writes_span.Goals as goal

pub returns : goal.returns
returns c = writes_span
