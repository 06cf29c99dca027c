use Rattle.sn_log.proofs.LawLemmas.{replay-finds}
use Rattle.sn_log.proofs.laws.replay_finds_the_next.Goals as goal

pub returns : goal.returns
returns c = replay-finds c.payloads_differ.ensures
