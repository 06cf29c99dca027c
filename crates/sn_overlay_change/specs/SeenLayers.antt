-- What the layer of a change has of the nodes that were read.
use Rattle.std.specs.Prelude.{ℕ, false, Option, None, Some, if◌then◌else◌}
use Rattle.sn_walk.specs.Views.{is_directory}
use Rattle.sn_overlay.specs.declared.node.NodeChange.TheVariants.{Gone, Changed}
use Rattle.sn_overlay.specs.declared.node.NodeState.{NodeState}
use Rattle.sn_overlay.specs.declared.node.SeenNode.{SeenNode}
use Rattle.sn_overlay.specs.Layers.{Layer}
use Rattle.sn_overlay.specs.Overlays.{with_node}
use Rattle.sn_overlay_change.specs.ChangeLayers.{one_name_less}

-- a node that was seen, as a layer has it where nothing of it changes
abbrev pub kept_state : SeenNode → NodeState
kept_state seen = record { kind = seen.kind; ownership = seen.ownership; links = seen.links; size = seen.size; cut = seen.size; fresh = false; acl_changed = false }

-- a node that was seen is changed
abbrev pub with_seen : ℕ → (NodeState → NodeState) → Layer → Option SeenNode → Layer
with_seen number change layer None = layer
with_seen number change layer (Some seen) = with_node layer number (Changed (change (kept_state seen)))

-- a node that was seen loses a name
abbrev pub with_loss : ℕ → Layer → Option SeenNode → Layer
with_loss number layer None = layer
with_loss number layer (Some seen) = with_node layer number (if is_directory seen.kind then Gone false else Changed (one_name_less (kept_state seen)))
