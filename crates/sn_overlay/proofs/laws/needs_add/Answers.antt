use Rattle.sn_overlay.proofs.NeedLemmas.{needs_add}
use Rattle.sn_overlay.proofs.laws.needs_add.Goals as goal

pub returns : goal.returns
returns c = needs_add
