use Rattle.std.proofs.Common.{◌≡◌, ◌-◌, ◌*◌, ◌/◌, ◌<◌, ◌≤◌, length, IsTrue}
use Rattle.sn_device.specs.Disk.{reads}
use Rattle.sn_block.specs.Lending.{device_of}
use Rattle.sn_examine.proofs.RoomLemmas.{AreRead}
use Rattle.sn_examine.proofs.room.fill_words.Given as goal

-- the words of the blocks so far are those of each map that the copy is spelled with
abbrev pub invariant-loop-at : goal.invariant-loop-at
invariant-loop-at g l = record {
  read : IsTrue g.D.Device.tells_bytes → AreRead l.fn.geometry (reads (g.D.Device.disk (device_of l.fn.blocks))) l.fn.slot l.at l.words;
  count : length l.words ≡ l.fn.geometry;
  within : l.at ≤ l.fn.geometry;
  whole : l.at < l.fn.geometry → 1024 * (l.at / 1024) ≡ l.at;
  same : IsTrue g.D.Device.tells_bytes → g.D.Device.disk (device_of l.blocks) ≡ g.D.Device.disk (device_of l.fn.blocks);
  status : g.D.Device.status (device_of l.blocks) ≡ g.D.Device.status (device_of l.fn.blocks);
}

abbrev pub decreases-loop-at : goal.decreases-loop-at
decreases-loop-at g l = l.fn.geometry - l.at
