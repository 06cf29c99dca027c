use Rattle.sn_opening.proofs.CoveringLemmas.{covers_stand, dropping_covers, one_more_covers, replay_covers}
use Rattle.sn_opening.proofs.laws.covering_laws.Goals as goal

pub returns-clause-stand : goal.returns-clause-stand
returns-clause-stand c = covers_stand

pub returns-clause-more : goal.returns-clause-more
returns-clause-more c = one_more_covers

pub returns-clause-dropped : goal.returns-clause-dropped
returns-clause-dropped c = dropping_covers

pub returns-clause-replayed : goal.returns-clause-replayed
returns-clause-replayed c = replay_covers
