use Rattle.std.proofs.Common.{List, subst}
use Rattle.sn_census.specs.Rows.{AreUnused}
use Rattle.sn_census.specs.declared.table.Row.{Row}
use Rattle.sn_census.proofs.table.Census.used.Goals as goal

pub returns-clause-rest : goal.returns-clause-rest
returns-clause-rest c = subst (λ (rows : List Row). AreUnused c.self.inside.used rows) c.self.view_is c.self.invariant.1.1
