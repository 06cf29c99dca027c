use Rattle.sn_image.proofs.ReachLemmas.{reach_sum, reach_parts, reach_part}
use Rattle.sn_image.proofs.laws.reach_laws.Goals as goal

pub returns-clause-sum : goal.returns-clause-sum
returns-clause-sum c = reach_sum

pub returns-clause-parts : goal.returns-clause-parts
returns-clause-parts c = reach_parts

pub returns-clause-part : goal.returns-clause-part
returns-clause-part c = reach_part
