-- Stretches of sectors that are written one after another.
use Rattle.std.proofs.Common.{◌≡◌, ℕ, ◌+◌, ◌*◌, ◌<◌, ◌≤◌, Bool, IsTrue, Ok, List, [], ◌++◌, length, take, drop, replicate, slice_set, sym, ◌∙◌, ap, arith}
use Rattle.std.proofs.Math.Seq.{take-add}
use Rattle.std.proofs.lemmas.List.{get_or-set_same, get_or-set_other, replicate-append-replicate}
use Rattle.sn_device.specs.Sectors.{Contents, sector_at, Single, Stretch}
use Rattle.sn_device.specs.Disk.{Disk, reads}
use Rattle.sn_device.specs.Crash.{Touches}
use Rattle.sn_device.specs.declared.status.Status.{Status}
use Rattle.sn_device.proofs.CrashLemmas.{Touches-start, Touches-join, Touches-within}
use Rattle.sn_device.proofs.SectorLemmas.{Stretch-single}
use Rattle.sn_ondisk.specs.Blocks.{bytes_at}
use Rattle.sn_block.specs.Counts.{called}
use Rattle.sn_block.specs.Effects.{WritesSector}
use Rattle.sn_block.proofs.BlockLemmas.{bytes_at-push, bytes_at-same, bytes_at-none}
use Rattle.sn_block.proofs.CountLemmas.{called-none, called-after}

-- of n sectors i were written, which read as these bytes
pub record IsWriting (tells : Bool) (at n i : ℕ) (bytes : List ℕ) (old new : Status) (before now : Disk) : Type 0 where
  pub counts : new ≡ called i 0 old
  pub touched : IsTrue tells → Touches (Stretch at n) before now
  pub done : IsTrue tells → bytes_at (reads now) at i ≡ bytes

bytes_at-written : (c : Contents) (at i : ℕ) (sector : List ℕ) → at + i < length c → bytes_at (slice_set c (at + i) sector) at (i + 1) ≡ bytes_at c at i ++ sector
bytes_at-written c at i sector room =
    bytes_at-push (slice_set c (at + i) sector) at i
    ∙ ap (λ bytes. bytes ++ sector_at (slice_set c (at + i) sector) (at + i)) (bytes_at-same c (slice_set c (at + i) sector) at i (λ k from to. get_or-set_other c (at + i) k sector [] (λ same. omega (arith, from, to, same))))
    ∙ ap (λ s. bytes_at c at i ++ s) (get_or-set_same c (at + i) sector [] room)

pub take-sector : (bytes sector : List ℕ) (i n : ℕ) → n ≡ 512 → sector ≡ take n (drop (512 * i) bytes) → take (512 * i) bytes ++ sector ≡ take (512 * (i + 1)) bytes
take-sector bytes sector i n size is =
    ap (λ s. take (512 * i) bytes ++ s) (is ∙ ap (λ m. take m (drop (512 * i) bytes)) size) ∙ sym (take-add (512 * i) 512 bytes) ∙ ap (λ n. take n bytes) (omega arith)

pub zeros-sector : (i byte : ℕ) → replicate (512 * i) byte ++ replicate 512 byte ≡ replicate (512 * (i + 1)) byte
zeros-sector i byte = replicate-append-replicate (512 * i) 512 byte ∙ ap (λ n. replicate n byte) (omega arith)

pub IsWriting-start : (tells : Bool) (at n : ℕ) (s : Status) (d : Disk) → IsWriting tells at n 0 [] s s d d
IsWriting-start tells at n s d = record {
  counts = called-none s;
  touched = λ told. Touches-start (Stretch at n) d;
  done = λ told. sym (bytes_at-none (reads d) at);
}

-- the next sector is one of the device's
pub next-room : (at n i : ℕ) (c : Contents) (old now : Status) → i < n → at + n ≤ old.sectors → now ≡ called i 0 old → length c ≡ now.sectors → at + i < length c
next-room at n i c old now more room counts count =
    let same : now.sectors ≡ old.sectors = ap (λ (s : Status). s.sectors) counts in
    omega arith

module _ (at n i : ℕ) (before now after : Disk) where
  pub touched-next : i < n → Touches (Stretch at n) before now → Touches (Single (at + i)) now after → Touches (Stretch at n) before after
  touched-next more so_far wrote =
      Touches-join (Stretch at n) before now after so_far (Touches-within (Single (at + i)) (Stretch at n) now after (Stretch-single at n (at + i) (omega arith, omega arith)) wrote)

  -- one sector more
  pub IsWriting-next : {T E : Type 0} (tells : Bool) (bytes sector all : List ℕ) (x : T) (old mid new : Status) → i < n → bytes ++ sector ≡ all → IsWriting tells at n i bytes old mid before now → (IsTrue tells → at + i < length (reads now))
      → new ≡ called 1 0 mid → (IsTrue tells → WritesSector {E = E} (at + i) sector (Ok x) now after) → IsWriting tells at n (i + 1) all old new before after
  IsWriting-next tells bytes sector all x old mid new more joined so_far room call wrote = record {
    counts = called-after i 0 1 0 old mid new so_far.counts call;
    touched = λ told. touched-next more (so_far.touched told) (wrote told).touched;
    done = λ told. ap (λ c. bytes_at c at (i + 1)) (wrote told).done ∙ bytes_at-written (reads now) at i sector (room told) ∙ ap (λ b. b ++ sector) (so_far.done told) ∙ joined;
  }
