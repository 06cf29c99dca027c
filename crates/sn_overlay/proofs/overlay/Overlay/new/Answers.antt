use Rattle.sn_overlay.specs.Overlays.{nodes_of, names_of, blocks_of}
use Rattle.sn_overlay.proofs.overlay.Overlay.new.Goals as goal

pub returns : goal.returns
unfolding nodes_of names_of blocks_of
returns c i = record { nodes = nodes_of (c.new.ensures i); names = names_of (c.new-2.ensures i); blocks = blocks_of (c.new-3.ensures i) }
