-- The outcome of a call that brings a snapshot back.
use Rattle.std.specs.Prelude.{ℕ, ◌*◌, List}
use Rattle.std.specs.FinMap as map
use Rattle.sn_limits.specs.Versions.{limits_written}
use Rattle.sn_model.specs.declared.outcome.AskedPoint.TheVariants.{Restores}
use Rattle.sn_model.specs.declared.outcome.Outcome.{Outcome}
use Rattle.sn_model.specs.Outcomes.{points_for}
use Rattle.sn_model.specs.Settling.{nameless_if}
use Rattle.sn_model.specs.World.{World}

-- a charge for each file without names of the snapshot's tree, and its point
abbrev pub restores_in : World → List ℕ → Outcome
restores_in world name = points_for (limits_written.inode_charge * nameless_if (map.get world.frozen name)) (Restores name)
