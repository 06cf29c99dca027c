use Rattle.std.specs.FinMap.{from_entries}
use Rattle.sn_overlay.specs.Overlays.{nodes_of, names_of, blocks_of}
use Rattle.sn_overlay.proofs.overlay.Overlay.copy.Goals as goal

pub returns : goal.returns
unfolding blocks_of
returns c i = record { nodes = nodes_of (c.in_ok-nodes.ensures i); names = names_of (c.in_ok-names.ensures i); blocks = from_entries (c.in_ok-blocks.ensures i) }
