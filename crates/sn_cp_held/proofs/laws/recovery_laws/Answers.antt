use Rattle.sn_cp_held.proofs.RecoverLemmas.{recoveries_leave_the_world}
use Rattle.sn_cp_held.proofs.laws.recovery_laws.Goals as goal

pub returns : goal.returns
returns c = recoveries_leave_the_world
