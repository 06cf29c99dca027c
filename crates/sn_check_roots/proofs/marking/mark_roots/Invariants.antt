use Rattle.std.proofs.Common.{◌≡◌, length, IsTrue}
use Rattle.sn_device.specs.Disk.{reads}
use Rattle.sn_block.specs.Lending.{device_of}
use Rattle.sn_ondisk.specs.Trees.{store_of}
use Rattle.sn_check_root.proofs.DeviceLemmas.{Stays}
use Rattle.sn_check_roots.specs.First.{AreDone}
use Rattle.sn_check_roots.proofs.marking.mark_roots.Given as goal

abbrev pub invariant-loop-i : goal.invariant-loop-i
invariant-loop-i g l = record {
  stays : Stays g.D.Device.tells_bytes (g.D.Device.status (device_of l.initial.blocks)) (g.D.Device.status (device_of l.blocks)) (g.D.Device.disk (device_of l.initial.blocks)) (g.D.Device.disk (device_of l.blocks));
  words : length l.map ≡ l.geometry;
  done : IsTrue g.D.Device.tells_bytes → AreDone l.geometry (store_of (reads (g.D.Device.disk (device_of l.initial.blocks)))) l.root l.i l.map;
}
