use Rattle.sn_cp.proofs.NextLemmas.{done_points_stand, next_opens}
use Rattle.sn_cp.proofs.laws.next_laws.Goals as goal

pub returns-clause-opens : goal.returns-clause-opens
returns-clause-opens c = next_opens

pub returns-clause-done : goal.returns-clause-done
returns-clause-done c = done_points_stand
