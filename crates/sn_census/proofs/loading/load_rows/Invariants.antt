use Rattle.std.proofs.Common.{IsTrue}
use Rattle.sn_device.specs.Disk.{reads}
use Rattle.sn_block.specs.Lending.{device_of}
use Rattle.sn_ondisk.specs.Trees.{store_of}
use Rattle.sn_check_root.proofs.DeviceLemmas.{Stays}
use Rattle.sn_census.specs.Rows.{AreLoaded, AreUnused}
use Rattle.sn_census.proofs.loading.load_rows.Given as goal

abbrev pub invariant-loop-number : goal.invariant-loop-number
invariant-loop-number g l = record {
  stays : Stays g.D.Device.tells_bytes (g.D.Device.status (device_of l.initial.blocks)) (g.D.Device.status (device_of l.blocks)) (g.D.Device.disk (device_of l.initial.blocks)) (g.D.Device.disk (device_of l.blocks));
  loaded : IsTrue g.D.Device.tells_bytes → AreLoaded (store_of (reads (g.D.Device.disk (device_of l.initial.blocks)))) l.file l.number l.census;
  unused : IsTrue g.D.Device.tells_bytes → AreUnused l.number l.census;
}
