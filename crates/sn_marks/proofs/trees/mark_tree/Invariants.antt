use Rattle.std.proofs.Common.{◌≡◌, length, take, IsTrue}
use Rattle.sn_device.specs.Disk.{reads}
use Rattle.sn_block.specs.Lending.{device_of}
use Rattle.sn_layout.specs.Pointers.{levels_of}
use Rattle.sn_ondisk.specs.Trees.{store_of}
use Rattle.sn_marks.specs.Walks.{IsWalked}
use Rattle.sn_marks.proofs.trees.mark_tree.Given as goal

abbrev pub invariant-loop-i : goal.invariant-loop-i
invariant-loop-i g l = record {
  same : IsTrue g.D.Device.tells_bytes → g.D.Device.disk (device_of l.blocks) ≡ g.D.Device.disk (device_of l.fn.blocks);
  status : g.D.Device.status (device_of l.blocks) ≡ g.D.Device.status (device_of l.fn.blocks);
  words : length l.map ≡ length l.fn.map;
  walked : IsTrue g.D.Device.tells_bytes → IsWalked l.fn.root.geometry l.fn.root.bit (store_of (reads (g.D.Device.disk (device_of l.fn.blocks)))) l.fn.tree.size (levels_of l.fn.tree.size) 0 (take l.i l.fn.tree.pointers) l.fn.map l.map;
}
