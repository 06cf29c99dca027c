use Rattle.sn_overlay_change.proofs.ChangeLemmas.{makes_show}
use Rattle.sn_overlay_change.proofs.laws.makes_show.Goals as goal

pub returns : goal.returns
returns c = makes_show
