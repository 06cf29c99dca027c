use Rattle.std.proofs.Common.{◌≡◌, take}
use Rattle.sn_overlay.specs.Needs.{counts}
use Rattle.sn_overlay.specs.Overlays.{TakesRoom, layer_of}
use Rattle.sn_changed.specs.Dropped.{with_drops}
use Rattle.sn_changed.proofs.dropped.drop_each.Given as goal

-- those so far are dropped
abbrev pub invariant-loop-file : goal.invariant-loop-file
invariant-loop-file l = record {
  layer : layer_of l.overlay ≡ with_drops (layer_of l.fn.overlay) (take l.file-index l.files);
  taken : TakesRoom l.fn.overlay l.overlay (counts l.file-index 0 0);
}
