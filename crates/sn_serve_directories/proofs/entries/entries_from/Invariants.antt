use Rattle.std.proofs.Common.{drop}
use Rattle.sn_plan.specs.Follows.{Goes}
use Rattle.sn_serve_directories.specs.Entries.{entries_from, images_of}
use Rattle.sn_serve_directories.proofs.entries.entries_from.Given as goal

-- the names before the index have their entries
abbrev pub invariant-loop-name : goal.invariant-loop-name
invariant-loop-name g l = Goes g.F.FileSystem.did l.fn.server l.server (entries_from l.node (images_of l.fn.before.items) l.names) (entries_from l.node (images_of l.held.items) (drop l.name-index l.names))
