use Rattle.sn_held.proofs.EventLemmas.{appends_ready, drops_ready, leaves_either}
use Rattle.sn_held.proofs.RoomLemmas.{drops_leave_fewer}
use Rattle.sn_held.proofs.laws.call_laws.Goals as goal

pub returns-clause-drops : goal.returns-clause-drops
returns-clause-drops c = drops_ready

pub returns-clause-either : goal.returns-clause-either
returns-clause-either c = leaves_either

pub returns-clause-runs : goal.returns-clause-runs
returns-clause-runs c = appends_ready

pub returns-clause-fewer : goal.returns-clause-fewer
returns-clause-fewer c = drops_leave_fewer
