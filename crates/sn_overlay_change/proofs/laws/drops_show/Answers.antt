use Rattle.sn_overlay_change.proofs.DropLemmas.{drops_show}
use Rattle.sn_overlay_change.proofs.laws.drops_show.Goals as goal

pub returns : goal.returns
returns c = λ tree number by_close h file. drops_show number by_close tree h file
