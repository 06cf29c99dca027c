use Rattle.sn_events.proofs.CountedLemmas.{begun_few, steps_small, steps_write}
use Rattle.sn_run.proofs.PointedLemmas.{steps_spent}
use Rattle.sn_run.proofs.laws.step_laws.Goals as goal

pub returns-clause-small : goal.returns-clause-small
returns-clause-small c old new reply goes = steps_small old.state reply old.held new.held new.has_stopped goes.answers

pub returns-clause-writes : goal.returns-clause-writes
returns-clause-writes c old new means goes = steps_write old.state old.held new.held new.has_stopped means goes.answers

pub returns-clause-few : goal.returns-clause-few
returns-clause-few c = begun_few

pub returns-clause-spent : goal.returns-clause-spent
returns-clause-spent c = steps_spent
