use Rattle.std.proofs.Common.{drop}
use Rattle.sn_plan.specs.Follows.{Goes}
use Rattle.sn_serve_looks.specs.Messages.{batch_forget}
use Rattle.sn_serve_looks.proofs.forgetting.batch_forget.Given as goal

-- those before the index are forgotten
abbrev pub invariant-loop-index : goal.invariant-loop-index
invariant-loop-index g l = Goes g.F.FileSystem.did l.fn.server l.server (batch_forget l.forgets) (batch_forget (drop l.index l.forgets))
