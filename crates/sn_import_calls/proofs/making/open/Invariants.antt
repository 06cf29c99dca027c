use Rattle.std.proofs.Common.{◌≡◌, length}
use Rattle.sn_import.specs.Calls.{opening_calls, opening_from}
use Rattle.sn_import_calls.specs.Carried.{Adds, AreMade, last_descriptor}
use Rattle.sn_import_calls.proofs.making.open.Given as goal

-- the calls up to here are made
abbrev pub invariant-loop-call : goal.invariant-loop-call
invariant-loop-call g l =
    Adds (g.C.Calls.did l.fn.to) (g.C.Calls.did l.to) (λ acts. AreMade l.object.what (opening_calls l.object) (opening_from l.place l.object) acts × (l.fd ≡ last_descriptor l.object.what acts))

abbrev pub decreases-loop-call : goal.decreases-loop-call
decreases-loop-call g l = length (opening_from l.place l.object)
