use Rattle.std.proofs.Common.{length}
use Rattle.sn_import.specs.Calls.{closing_from}
use Rattle.sn_import_calls.specs.Carried.{Adds, AreMade}
use Rattle.sn_import_calls.proofs.making.close.Given as goal

-- the calls up to here are made
abbrev pub invariant-loop-call : goal.invariant-loop-call
invariant-loop-call g l = Adds (g.C.Calls.did l.fn.to) (g.C.Calls.did l.to) (AreMade l.object.what (closing_from l.fn.from l.object) (closing_from l.place l.object))

abbrev pub decreases-loop-call : goal.decreases-loop-call
decreases-loop-call g l = length (closing_from l.place l.object)
