use Rattle.std.proofs.Common.{List, ◌++◌, drop}
use Rattle.sn_import_calls.specs.Acts.{Act}
use Rattle.sn_import_calls.specs.Carried.{Adds}
use Rattle.sn_import_run.specs.Imports.{AreGranted}
use Rattle.sn_import_run.proofs.rights.grant_all.Given as goal

-- what is done up to here is the front of what is done in all
abbrev pub invariant-loop-object : goal.invariant-loop-object
invariant-loop-object g l =
    Adds (g.C.Calls.did l.fn.to) (g.C.Calls.did l.to) (λ acts. (more : List Act) → AreGranted (drop l.object-index l.directories) more → AreGranted l.directories (acts ++ more))
