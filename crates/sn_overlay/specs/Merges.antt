-- A newer layer over an older one, as one layer.
use Rattle.std.specs.Prelude.{not, min, ◌||◌, Option, Some, map, if◌then◌else◌}
use Rattle.std.specs.FinMap as map
use Rattle.sn_overlay.specs.declared.node.NodeChange.{NodeChange}
use Rattle.sn_overlay.specs.declared.node.NodeChange.TheVariants.{Changed}
use Rattle.sn_overlay.specs.declared.node.NodeState.{NodeState}
use Rattle.sn_overlay.specs.Overlaid.{overlaid}
use Rattle.sn_overlay.specs.Layers.{Layer, hides_names, hides_block}

-- what was made anew, or got another ACL, in the older one did so in both; the cut is the lesser
abbrev pub state_over : NodeState → NodeState → NodeState
state_over older newer = record newer { cut = min older.cut newer.cut; fresh = older.fresh || newer.fresh; acl_changed = older.acl_changed || newer.acl_changed }

abbrev pub change_over : Option NodeChange → NodeChange → NodeChange
change_over (Some (Changed older)) (Changed newer) = if newer.fresh then Changed newer else Changed (state_over older newer)
change_over older newer = newer

unfoldable pub merge : Layer → Layer → Layer
merge older newer = record {
  nodes = overlaid (map (λ e. (e.0, Some (change_over (map.get older.nodes e.0) e.1))) (map.entries newer.nodes)) older.nodes;
  names = overlaid (map (λ e. (e.0, Some e.1)) (map.entries newer.names)) (map.retain_keys older.names (λ link. not (hides_names (map.get newer.nodes link.directory))));
  blocks = overlaid (map (λ e. (e.0, Some e.1)) (map.entries newer.blocks)) (map.retain_keys older.blocks (λ file_block. not (hides_block (map.get newer.nodes file_block.file) file_block.index)));
}
