use Rattle.std.proofs.Common.{ℕ}
use Rattle.sn_census.specs.Climbs.{AreClimbed, KeepsRows}
use Rattle.sn_census.proofs.ClimbLemmas.{IsClimbing, unclimbed}
use Rattle.sn_census.proofs.climbing.climb.Given as goal

abbrev pub invariant-steps : goal.invariant-steps
invariant-steps l = record {
  way : (parents : ℕ → ℕ) → AreClimbed parents l.directory l.initial.census → IsClimbing parents l.directory l.at l.census;
  kept : KeepsRows l.initial.census l.census;
}

abbrev pub decreases-steps : goal.decreases-steps
decreases-steps l = unclimbed l.census
