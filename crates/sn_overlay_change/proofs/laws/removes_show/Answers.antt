use Rattle.sn_overlay_change.proofs.ChangeLemmas.{removes_show}
use Rattle.sn_overlay_change.proofs.laws.removes_show.Goals as goal

pub returns : goal.returns
returns c = removes_show
