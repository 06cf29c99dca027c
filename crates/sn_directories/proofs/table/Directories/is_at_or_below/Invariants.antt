use Rattle.sn_limits.specs.declared.kind.Kind.TheVariants.{Directory}
use Rattle.sn_limits.specs.Versions.{limits_written}
use Rattle.sn_model.specs.NameTree.{HasKind, IsTree}
use Rattle.sn_model.specs.Tree.{Tree}
use Rattle.sn_directories.specs.Told.{TellsDirectories}
use Rattle.sn_directories.proofs.WayLemmas.{IsOnWay}
use Rattle.sn_directories.proofs.table.Directories.is_at_or_below.Given as goal

-- each directory on the way decides as the first
abbrev pub invariant-loop-step : goal.invariant-loop-step
invariant-loop-step l = (tree : Tree) → IsTree limits_written tree → TellsDirectories tree l.self → HasKind tree l.directory Directory → IsOnWay tree l.top l.directory l.current l.step
