use Rattle.sn_homes.proofs.PlaceLemmas.{deleted_leave, stay_left}
use Rattle.sn_homes.proofs.laws.places_stay_left.Goals as goal

pub returns-clause-deleted : goal.returns-clause-deleted
returns-clause-deleted c = deleted_leave

pub returns-clause-stay : goal.returns-clause-stay
returns-clause-stay c = stay_left
