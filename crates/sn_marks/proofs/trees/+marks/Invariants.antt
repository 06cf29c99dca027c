use Rattle.std.proofs.Common.{◌≡◌, ◌+◌, ◌*◌, length, take, IsTrue}
use Rattle.sn_device.specs.Disk.{reads}
use Rattle.sn_block.specs.Lending.{device_of}
use Rattle.sn_ondisk.specs.Trees.{store_of}
use Rattle.sn_marks.specs.Walks.{IsWalked}
use Rattle.sn_marks.proofs.trees.+marks.Given as goal

abbrev pub decreases-mark_below : goal.decreases-mark_below
decreases-mark_below g l = 2 * l.spot.height

abbrev pub decreases-mark_indirect : goal.decreases-mark_indirect
decreases-mark_indirect g l = 2 * l.spot.height + 1

abbrev pub invariant-mark_indirect-loop-i : goal.invariant-mark_indirect-loop-i
invariant-mark_indirect-loop-i g l = record {
  same : IsTrue g.D.Device.tells_bytes → g.D.Device.disk (device_of l.blocks) ≡ g.D.Device.disk (device_of l.fn.blocks);
  status : g.D.Device.status (device_of l.blocks) ≡ g.D.Device.status (device_of l.fn.blocks);
  words : length l.map ≡ length l.fn.map;
  walked : IsTrue g.D.Device.tells_bytes → IsWalked l.fn.root.geometry l.fn.root.bit (store_of (reads (g.D.Device.disk (device_of l.fn.blocks)))) l.fn.size l.fn.spot.height l.fn.spot.first (take l.i l.fn.pointers) l.fn.map l.map;
}
