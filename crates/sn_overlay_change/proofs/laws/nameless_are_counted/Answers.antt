use Rattle.sn_overlay_change.proofs.NamelessLemmas.{nameless_are_counted}
use Rattle.sn_overlay_change.proofs.laws.nameless_are_counted.Goals as goal

pub returns : goal.returns
returns c = nameless_are_counted
