use Rattle.std.proofs.Common.{◌≡◌, IsTrue}
use Rattle.sn_device.specs.Disk.{reads}
use Rattle.sn_ondisk.specs.Trees.{store_of}
use Rattle.sn_names.specs.Index.{Tells, tree_of}
use Rattle.sn_block.specs.Lending.{device_of}
use Rattle.sn_dir.proofs.indexes.place_tops.Given as goal

abbrev pub invariant-loop-top : goal.invariant-loop-top
invariant-loop-top g l = record {
  tree : tree_of l.index ≡ l.tree;
  told : IsTrue g.D.Device.tells_bytes
      → Tells (g.D.Device.status (device_of l.initial.blocks)).sectors (store_of (reads (g.D.Device.disk (device_of l.initial.blocks)))) l.initial.index
      → Tells (g.D.Device.status (device_of l.initial.blocks)).sectors (store_of (reads (g.D.Device.disk (device_of l.initial.blocks)))) l.index;
  status : g.D.Device.status (device_of l.blocks) ≡ g.D.Device.status (device_of l.initial.blocks);
  same : IsTrue g.D.Device.tells_bytes → g.D.Device.disk (device_of l.blocks) ≡ g.D.Device.disk (device_of l.initial.blocks);
}
