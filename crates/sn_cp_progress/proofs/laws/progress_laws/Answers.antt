use Rattle.sn_cp_progress.proofs.CallLemmas.{appends_go_on, appends_leave, drops_go_on, fits_on_next}
use Rattle.sn_cp_progress.proofs.EndLemmas.{point_begins, point_ends, point_finishes}
use Rattle.sn_cp_progress.proofs.StepLemmas.{step_goes_on, step_leaves}
use Rattle.sn_cp_progress.proofs.laws.progress_laws.Goals as goal

pub returns-clause-begins : goal.returns-clause-begins
returns-clause-begins c = point_begins

pub returns-clause-steps : goal.returns-clause-steps
returns-clause-steps c h world p result d ro whole before step = (step_leaves h world p ro result d whole step before, step_goes_on h world p ro result d whole step before)

pub returns-clause-ends : goal.returns-clause-ends
returns-clause-ends c h world p result d ro whole is_last step = point_ends h world p result d ro whole is_last step

pub returns-clause-finishes : goal.returns-clause-finishes
returns-clause-finishes c = point_finishes

pub returns-clause-fits : goal.returns-clause-fits
returns-clause-fits c = fits_on_next

pub returns-clause-either : goal.returns-clause-either
returns-clause-either c = appends_leave

pub returns-clause-appends : goal.returns-clause-appends
returns-clause-appends c = appends_go_on

pub returns-clause-drops : goal.returns-clause-drops
returns-clause-drops c = drops_go_on
