use Rattle.sn_run.proofs.PointedLemmas.{syncs_leave_all}
use Rattle.sn_run.proofs.laws.sync_laws.Goals as goal

pub returns : goal.returns
returns c = syncs_leave_all
