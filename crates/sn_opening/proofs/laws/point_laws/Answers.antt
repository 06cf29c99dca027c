use Rattle.sn_opening.proofs.LogLemmas.{begin_shows}
use Rattle.sn_opening.proofs.PointLemmas.{blocks_keep, opening_opens, reached_kept}
use Rattle.sn_opening.proofs.laws.point_laws.Goals as goal

pub returns-clause-begin : goal.returns-clause-begin
returns-clause-begin c = begin_shows

pub returns-clause-blocks : goal.returns-clause-blocks
returns-clause-blocks c = blocks_keep

pub returns-clause-opening : goal.returns-clause-opening
returns-clause-opening c = opening_opens

pub returns-clause-log : goal.returns-clause-log
returns-clause-log c n s slot root frozen plan stage epoch old new whole built touched reached = reached_kept n epoch old new whole touched slot plan stage built.place reached
