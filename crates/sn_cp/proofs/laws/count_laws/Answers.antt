use Rattle.sn_cp.proofs.CountLemmas.{calls_counted, steps_counted, steps_few}
use Rattle.sn_cp.proofs.laws.count_laws.Goals as goal

pub returns-clause-fewer : goal.returns-clause-fewer
returns-clause-fewer c = steps_counted

pub returns-clause-few : goal.returns-clause-few
returns-clause-few c = steps_few

pub returns-clause-calls : goal.returns-clause-calls
returns-clause-calls c = calls_counted
