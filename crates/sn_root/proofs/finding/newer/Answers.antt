use Rattle.sn_root.proofs.FindingLemmas.{equal_roots}
use Rattle.sn_root.proofs.finding.newer.Goals as goal

pub returns-then-one-other-clause-finds : goal.returns-then-one-other-clause-finds
returns-then-one-other-clause-finds c d in_a in_b = equal_roots d c.args.one c.args.other in_a in_b c.if-one-other.true
