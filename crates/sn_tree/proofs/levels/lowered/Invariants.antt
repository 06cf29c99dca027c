use Rattle.std.proofs.Common.{◌≡◌, ◌≤◌, length, IsTrue}
use Rattle.sn_device.specs.Disk.{reads}
use Rattle.sn_block.specs.Lending.{device_of}
use Rattle.sn_ondisk.specs.Trees.{store_of}
use Rattle.sn_tree.specs.Fronts.{IsFirstOf}
use Rattle.sn_tree.proofs.levels.lowered.Given as goal

abbrev pub invariant-loop-depth : goal.invariant-loop-depth
invariant-loop-depth g l = record {
  same : IsTrue g.D.Device.tells_bytes → g.D.Device.disk (device_of l.blocks) ≡ g.D.Device.disk (device_of l.fn.blocks);
  status : g.D.Device.status (device_of l.blocks) ≡ g.D.Device.status (device_of l.fn.blocks);
  least : l.fn.levels ≤ l.depth;
  most : l.depth ≤ 3;
  count : length l.pointers ≡ 16;
  first : IsFirstOf (IsTrue g.D.Device.tells_bytes) (store_of (reads (g.D.Device.disk (device_of l.fn.blocks)))) l.fn.tree l.depth l.pointers l.fn.build l.build;
}

abbrev pub decreases-loop-depth : goal.decreases-loop-depth
decreases-loop-depth g l = l.depth
