use Rattle.std.proofs.Common.{◌≡◌, IsTrue, map}
use Rattle.sn_device.specs.Disk.{reads}
use Rattle.sn_block.specs.Lending.{device_of}
use Rattle.sn_ondisk.specs.Trees.{store_of}
use Rattle.sn_dir.specs.Blocks.{names_before}
use Rattle.sn_dir_change.specs.Standing.{change_of, seen}
use Rattle.sn_dir_change.proofs.standing.seek_in_turn.Given as goal

abbrev pub invariant-loop-i : goal.invariant-loop-i
invariant-loop-i g l = record {
  status : g.D.Device.status (device_of l.blocks) ≡ g.D.Device.status (device_of l.initial.blocks);
  same : IsTrue g.D.Device.tells_bytes → g.D.Device.disk (device_of l.blocks) ≡ g.D.Device.disk (device_of l.initial.blocks);
  sought : IsTrue g.D.Device.tells_bytes → l.sought.items ≡ map (seen (names_before (store_of (reads (g.D.Device.disk (device_of l.initial.blocks)))) l.tree l.i)) l.changes;
  listed : map change_of l.sought.items ≡ l.changes;
}
