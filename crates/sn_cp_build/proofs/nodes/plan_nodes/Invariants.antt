use Rattle.std.proofs.Common.{◌≡◌, take, IsTrue}
use Rattle.sn_block.specs.Lending.{device_of}
use Rattle.sn_device.specs.Disk.{reads}
use Rattle.sn_ondisk.specs.Trees.{store_of}
use Rattle.sn_overlay.specs.Overlays.{layer_of}
use Rattle.sn_cp_build.specs.Planned.{AreBuilt, IsLeft, numbers_of}
use Rattle.sn_cp_build.proofs.nodes.plan_nodes.Given as goal

abbrev pub invariant-loop-index : goal.invariant-loop-index
invariant-loop-index g l = record {
  left : IsLeft (layer_of l.initial.changes) (take l.index (numbers_of (layer_of l.initial.changes))) (layer_of l.changes);
  same : IsTrue g.D.Device.tells_bytes → g.D.Device.disk (device_of l.blocks) ≡ g.D.Device.disk (device_of l.initial.blocks);
  status : g.D.Device.status (device_of l.blocks) ≡ g.D.Device.status (device_of l.initial.blocks);
  built : AreBuilt (IsTrue g.D.Device.tells_bytes) l.limits (store_of (reads (g.D.Device.disk (device_of l.initial.blocks)))) l.file (layer_of l.initial.changes) l.initial.build (take l.index (numbers_of (layer_of l.initial.changes))) l.planned.items l.build;
}
