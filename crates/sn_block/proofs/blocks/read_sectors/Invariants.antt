use Rattle.std.proofs.Common.{◌≡◌, ◌*◌, Bool, ℕ, List, IsTrue, length, take}
use Rattle.sn_device.specs.Disk.{Disk, reads}
use Rattle.sn_device.specs.declared.status.Status.{Status}
use Rattle.sn_ondisk.specs.Blocks.{bytes_at}
use Rattle.sn_block.proofs.blocks.read_sectors.Given as goal

-- no call has failed, and so many sectors are in place
pub record IsReading (tells : Bool) (number i : ℕ) (block : List ℕ) (old new : Status) (before now : Disk) : Type 0 where
  pub status : new ≡ old
  pub disk : IsTrue tells → now ≡ before
  pub size : length block ≡ 4096
  pub bytes : IsTrue tells → take (512 * i) block ≡ bytes_at (reads before) (8 * number) i

abbrev pub invariant-loop-i : goal.invariant-loop-i
invariant-loop-i g l =
    IsReading g.D.Device.tells_bytes l.number l.i l.block (g.D.Device.status l.initial.device) (g.D.Device.status l.device) (g.D.Device.disk l.initial.device) (g.D.Device.disk l.device)
