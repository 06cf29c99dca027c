use Rattle.sn_times_image.proofs.Identities.{first_records_told, marks_or_collision, one_identity, points_told, same_newest}
use Rattle.sn_times_image.proofs.laws.identity_laws.Goals as goal

pub returns-clause-same : goal.returns-clause-same
returns-clause-same c = one_identity

pub returns-clause-one : goal.returns-clause-one
returns-clause-one c = marks_or_collision

pub returns-clause-root : goal.returns-clause-root
returns-clause-root c = same_newest

pub returns-clause-points : goal.returns-clause-points
returns-clause-points c = points_told

pub returns-clause-records : goal.returns-clause-records
returns-clause-records c = first_records_told
