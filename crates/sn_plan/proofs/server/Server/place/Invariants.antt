use Rattle.sn_plan.specs.Follows.{Goes, kept_of}
use Rattle.sn_plan.specs.Places.{tries, tries_all}
use Rattle.sn_plan.proofs.server.Server.place.Given as goal

-- the names up to here lead elsewhere
abbrev pub invariant-loop-place : goal.invariant-loop-place
invariant-loop-place g l = Goes g.F.FileSystem.did l.fn.self l.self (tries_all (kept_of l.fn.self) l.id l.number) (tries l.left l.id l.number)

abbrev pub decreases-loop-place : goal.decreases-loop-place
decreases-loop-place g l = l.left
