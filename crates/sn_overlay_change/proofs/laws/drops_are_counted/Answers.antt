use Rattle.sn_overlay_change.proofs.NamelessLemmas.{drops_are_counted}
use Rattle.sn_overlay_change.proofs.laws.drops_are_counted.Goals as goal

pub returns : goal.returns
returns c = drops_are_counted
