use Rattle.std.proofs.Common.{◌≡◌, ◌*◌, ◌+◌, Bool, ℕ, List, IsTrue, length, take}
use Rattle.sn_device.specs.Disk.{Disk, reads}
use Rattle.sn_device.specs.declared.status.Status.{Status}
use Rattle.sn_ondisk.specs.Blocks.{bytes_at}
use Rattle.sn_block.specs.Lending.{device_of}
use Rattle.sn_log.proofs.sectors.read_sectors.Given as goal

-- no call has failed, and so many sectors are in place
pub record IsReading (tells : Bool) (at i : ℕ) (room : List ℕ) (old new : Status) (before now : Disk) : Type 0 where
  pub status : new ≡ old
  pub disk : IsTrue tells → now ≡ before
  pub size : length room ≡ 66048
  pub bytes : IsTrue tells → take (512 * i) room ≡ bytes_at (reads before) at i

abbrev pub invariant-loop-i : goal.invariant-loop-i
invariant-loop-i g l =
    IsReading g.D.Device.tells_bytes (8 * l.start + l.place) l.i l.room (g.D.Device.status (device_of l.initial.blocks)) (g.D.Device.status (device_of l.blocks)) (g.D.Device.disk (device_of l.initial.blocks)) (g.D.Device.disk (device_of l.blocks))
