use Rattle.sn_marks.proofs.MarkLemmas.{marks_join, marks_down, marks_once}
use Rattle.sn_marks.proofs.laws.mark_laws.Goals as goal

pub returns-clause-join : goal.returns-clause-join
returns-clause-join c n k height s ps qs a b d first second = marks_join n k height s ps qs a b d first second

pub returns-clause-down : goal.returns-clause-down
returns-clause-down c n k height s p a b d first second = marks_down n k height s p a b d first second

pub returns-clause-once : goal.returns-clause-once
returns-clause-once c n k blocks a b marks block = marks_once n k blocks a b marks block
