use Rattle.sn_overlay.proofs.LiesLemmas.{merges_lie}
use Rattle.sn_overlay.proofs.laws.merges_lie.Goals as goal

pub returns : goal.returns
returns c = merges_lie
