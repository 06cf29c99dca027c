-- What a mount keeps of what it has read.
use Rattle.sn_held.specs.Held.{Kept}
use Rattle.sn_live.specs.Live.{changes_of}
use Rattle.sn_mount.specs.declared.found.FoundDisk.{FoundDisk}

-- the root with its map, and what changed since
abbrev pub kept_of : FoundDisk → Kept
kept_of f = record { slot = f.slot; root = f.root; words = f.map; changed = changes_of f.live }
