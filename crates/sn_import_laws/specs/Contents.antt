-- A file that is written from its end on.
use Rattle.std.specs.Prelude.{◌≡◌, ◌≢◌, ℕ, true, false, Some, length}
use Rattle.std.specs.FinMap as map
use Rattle.sn_limits.specs.declared.kind.Kind.TheVariants.{File}
use Rattle.sn_walk.specs.declared.object.Home.TheVariants.{Live}
use Rattle.sn_model.specs.Tree.{Node}
use Rattle.sn_model.specs.World.{Descriptor, World}
use Rattle.sn_import_laws.specs.Trees.{Turns}

-- what writes to a file at its end, and nothing else
abbrev pub at_end : ℕ → Node → Descriptor
at_end number node = record { home = Live; number = number; readable = false; writable = true; appends = false; offset = length node.bytes }

-- session 0 has a file of the live tree open so
pub record IsFilling (world : World) (fd number : ℕ) (node : Node) : Type 0 where
  pub there : map.get world.live.nodes number ≡ Some node
  pub kind : node.kind ≡ File
  pub descriptor : map.get world.descriptors (0, fd) ≡ Some (at_end number node)

-- another descriptor than this one of session 0
abbrev pub IsOther : ℕ → ℕ → ℕ → Type 0
IsOther session other fd = let key : ℕ × ℕ = (session, other) in key ≢ (0, fd)

-- The file that is open so becomes another, of which the same is so. All else stays.
pub record IsFilled (old new : World) (fd number : ℕ) (node : Node) : Type 0 where
  pub filling : IsFilling new fd number node
  pub turns : Turns old.live new.live number node
  pub frozen : new.frozen ≡ old.frozen
  pub sessions : new.sessions ≡ old.sessions
  pub descriptors : (session other : ℕ) → IsOther session other fd → map.get new.descriptors (session, other) ≡ map.get old.descriptors (session, other)
