use Rattle.std.proofs.Common.{◌≡◌, length, IsTrue}
use Rattle.sn_device.specs.Disk.{reads}
use Rattle.sn_block.specs.Lending.{device_of}
use Rattle.sn_ondisk.specs.Trees.{store_of}
use Rattle.sn_check_root.proofs.DeviceLemmas.{Stays}
use Rattle.sn_check_root.proofs.RootLemmas.{IsChecked}
use Rattle.sn_check_root.proofs.roots.check_inodes.Given as goal

abbrev pub invariant-loop-number : goal.invariant-loop-number
invariant-loop-number g l = record {
  stays : Stays g.D.Device.tells_bytes (g.D.Device.status (device_of l.initial.blocks)) (g.D.Device.status (device_of l.blocks)) (g.D.Device.disk (device_of l.initial.blocks)) (g.D.Device.disk (device_of l.blocks));
  words : length l.map ≡ length l.initial.map;
  checked : IsTrue g.D.Device.tells_bytes → IsChecked (store_of (reads (g.D.Device.disk (device_of l.initial.blocks)))) l.file l.limits l.root.geometry l.root.bit l.number l.initial.map l.map;
}
