use Rattle.std.proofs.Common.{◌≡◌, ◌+◌, ◌*◌, ◌<◌, ℕ, List, length, slice_range}
use Rattle.sn_device.specs.Sectors.{Contents, AreSectors, sector_at}
use Rattle.sn_device.proofs.memory.MemDevice.from_bytes.Given as goal

-- the sectors so far are those of the bytes
pub record AreFirst (bytes : List ℕ) (sectors : Contents) (n : ℕ) : Type 0 where
  pub count : length sectors ≡ n
  pub same : (i : ℕ) → i < n → sector_at sectors i ≡ slice_range bytes (512 * i) (512 * i + 512)
  pub whole : AreSectors sectors

abbrev pub invariant-loop-i : goal.invariant-loop-i
invariant-loop-i l = AreFirst l.bytes l.sectors.items l.i
