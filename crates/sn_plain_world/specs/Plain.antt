-- What the live tree in memory and the sessions represent.
use Rattle.std.specs.Prelude.{ℕ, Bool}
use Rattle.std.specs.FinMap as map
use Rattle.sn_model.specs.Tree.{Tree}
use Rattle.sn_model.specs.World.{Trees, World}
use Rattle.sn_desc.specs.Sessions.{in_use_of}
use Rattle.sn_numbers.specs.Live.{kept_back_of, live_of}
use Rattle.sn_numbers.specs.Live as numbers
use Rattle.sn_plain_world.specs.PlainRuns.{Numbered}
use Rattle.sn_plain_world.specs.declared.world.PlainWorld.{PlainWorld}

-- a run without a device has no snapshots
abbrev pub plain_trees : Tree → Trees
plain_trees tree = record { live = tree; frozen = map.empty }

abbrev pub world_of : PlainWorld → World
world_of w = record { live = live_of w.tree; frozen = map.empty; sessions = (in_use_of w.sessions).sessions; descriptors = (in_use_of w.sessions).descriptors }

-- the numbers that are kept back
abbrev pub kept_of : PlainWorld → ℕ → Bool
kept_of w = kept_back_of w.tree

-- those of them that have been kept back since the consistency point in progress began, or the durable root's if there is none
abbrev pub kept_since_of : PlainWorld → ℕ → Bool
kept_since_of w = numbers.kept_since_of w.tree

abbrev pub numbered_of : PlainWorld → Numbered
numbered_of w = record { world = world_of w; kept = kept_of w }

-- this many more files can be opened without memory
abbrev pub room_of : PlainWorld → ℕ
room_of w = (in_use_of w.sessions).room
