use Rattle.sn_overlay.proofs.LiesLemmas.{merges_count}
use Rattle.sn_overlay.proofs.laws.merges_count.Goals as goal

pub returns : goal.returns
returns c = merges_count
