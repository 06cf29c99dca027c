use Rattle.std.proofs.Common.{◌≡◌, IsTrue}
use Rattle.sn_device.specs.Disk.{reads}
use Rattle.sn_block.specs.Lending.{device_of}
use Rattle.sn_check_roots.specs.Words.{HasFirst}
use Rattle.sn_check_roots.proofs.words.check_map.Given as goal

abbrev pub invariant-loop-i : goal.invariant-loop-i
invariant-loop-i g l = record {
  same : IsTrue g.D.Device.tells_bytes → g.D.Device.disk (device_of l.blocks) ≡ g.D.Device.disk (device_of l.initial.blocks);
  status : g.D.Device.status (device_of l.blocks) ≡ g.D.Device.status (device_of l.initial.blocks);
  first : IsTrue g.D.Device.tells_bytes → HasFirst l.fn.geometry (reads (g.D.Device.disk (device_of l.initial.blocks))) l.fn.slot l.map l.i;
}
