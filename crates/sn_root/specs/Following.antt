-- The root that a consistency point writes after another one.
use Rattle.std.specs.Prelude.{ℕ, ◌+◌}
use Rattle.sn_limits.specs.declared.limits.Limits.{Limits}
use Rattle.sn_layout.specs.declared.root.RootBody.{RootBody}
use Rattle.sn_root.specs.declared.following.PointKind.{PointKind}
use Rattle.sn_root.specs.declared.following.PointKind.TheVariants.{Ordinary, Recovery}

-- A point that runs while calls are logged leaves them under the next epoch. Recovery may have replayed records of that one too, and goes past it.
abbrev pub epochs_of : PointKind → ℕ
epochs_of Ordinary = 1
epochs_of Recovery = 2

-- the next root, in the version of these limits, with the same trees
abbrev pub following : PointKind → Limits → RootBody → RootBody
following kind limits root = record root { limits = limits; generation = root.generation + 1; epoch = root.epoch + epochs_of kind }
