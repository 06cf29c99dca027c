use Rattle.sn_overlay_change.proofs.DropLemmas.{drops_lie}
use Rattle.sn_overlay_change.proofs.laws.drops_lie.Goals as goal

pub returns : goal.returns
returns c = λ tree number by_close h file. drops_lie number by_close tree h file
