use Rattle.std.proofs.Common.{◌≡◌, ◌-◌, ◌/◌, IsTrue}
use Rattle.std.specs.FinMap as map
use Rattle.sn_model.specs.Changes.{overwritten}
use Rattle.sn_overlay_change.specs.ChangeLayers.{with_blocks}
use Rattle.sn_overlay.specs.Layers.{bytes_of}
use Rattle.sn_overlay.specs.Overlays.{layer_of, HasRoom}
use Rattle.sn_overlay.specs.Pieces.{piece}
use Rattle.sn_overlay_change.proofs.changing.write_blocks.Given as goal

-- so many blocks are written, and there is room for the others
abbrev pub invariant-loop-i : goal.invariant-loop-i
invariant-loop-i g l = record {
  kept : g.B.Below.holds l.below;
  follows : g.B.Below.follows l.fn.below l.below;
  same : IsTrue g.B.Below.is_told → g.B.Below.shows l.below ≡ g.B.Below.shows l.fn.below;
  layer : IsTrue g.B.Below.is_told → layer_of l.overlay ≡ with_blocks (layer_of l.fn.overlay) l.number (piece 4096 (overwritten (bytes_of (map.get (g.B.Below.shows l.fn.below).nodes l.number)) l.offset l.bytes)) (l.offset / 4096) l.i;
  room : HasRoom l.overlay (record { nodes = 0; names = 0; blocks = l.count - l.i });
}
