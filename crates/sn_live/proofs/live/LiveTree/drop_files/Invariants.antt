use Rattle.std.proofs.Common.{◌≡◌, ◌+◌, ℕ, length, take}
use Rattle.sn_changed.specs.Dropped.{with_drops, without_each}
use Rattle.sn_live.specs.Live.{HasDrops, IsLive, KeepsBack, changes_of, point_of, shown_of}
use Rattle.sn_live.specs.Unnamed.{CanGo, GoWithNames}
use Rattle.sn_model.specs.Tree.{Tree}
use Rattle.sn_live.proofs.live.LiveTree.drop_files.Given as goal

-- those so far are gone
abbrev pub invariant-loop-file : goal.invariant-loop-file
invariant-loop-file l = record {
  live : (below : Tree) → IsLive l.fn.self below → CanGo (shown_of l.fn.self below) l.files → IsLive l.self below;
  shown : (below : Tree) → IsLive l.fn.self below → CanGo (shown_of l.fn.self below) l.files → shown_of l.self below ≡ without_each (shown_of l.fn.self below) (take l.file-index l.files);
  point : point_of l.self ≡ point_of l.fn.self;
  changes : changes_of l.self ≡ with_drops (changes_of l.fn.self) (take l.file-index l.files);
  numbers : GoWithNames l.files → KeepsBack l.fn.self l.self;
  room : (drops : ℕ) → l.file-index + drops ≡ length l.files → HasDrops l.self drops;
}
