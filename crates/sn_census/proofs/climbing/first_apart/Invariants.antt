use Rattle.std.proofs.Common.{◌≡◌, ℕ, ◌<◌, Some}
use Rattle.sn_limits.specs.declared.kind.Kind.TheVariants.{Directory}
use Rattle.sn_census.specs.Climbs.{AreClimbed, AreUnclimbed, KeepsRows, LeadsUp, parents_of}
use Rattle.sn_census.specs.Rows.{row_at}
use Rattle.sn_census.proofs.climbing.first_apart.Given as goal

abbrev pub invariant-loop-number : goal.invariant-loop-number
invariant-loop-number l = record {
  climbed : AreUnclimbed l.fn.census → AreClimbed (parents_of l.fn.census) l.number l.census;
  up : AreUnclimbed l.fn.census → (directory : ℕ) → 2 < directory → directory < l.number → (row_at l.fn.census directory).kind ≡ Some Directory → LeadsUp (parents_of l.fn.census) directory;
  kept : KeepsRows l.fn.census l.census;
}
