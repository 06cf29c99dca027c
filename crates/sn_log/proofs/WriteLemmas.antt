-- The writes after a gate, one after another.
use Rattle.std.proofs.Common.{◌≡◌, ℕ, ◌+◌, ◌<◌, List, [], length, slice_set, Result, ◌∙◌, ap, arith}
use Rattle.std.proofs.lemmas.List.{get_or-set_same, get_or-set_other}
use Rattle.sn_device.specs.Sectors.{Contents, Single, Stretch, sector_at}
use Rattle.sn_device.specs.Disk.{Disk, reads}
use Rattle.sn_device.specs.Crash.{Touches}
use Rattle.sn_device.proofs.CrashLemmas.{Touches-join, Touches-within}
use Rattle.sn_device.proofs.SectorLemmas.{Stretch-within, Stretch-single}
use Rattle.sn_layout.specs.Gate.{gate_bytes}
use Rattle.sn_layout.specs.declared.gate.Gate.TheVariants.{Closed}
use Rattle.sn_ondisk.specs.Blocks.{bytes_at}
use Rattle.sn_ondisk.proofs.BlockLemmas.{bytes_at-same}
use Rattle.sn_block.specs.Effects.{SyncsAll}
use Rattle.sn_block.proofs.EffectLemmas.{Touches-settled, OnOk-always}
use Rattle.sn_log.specs.Appending.{WritesBehind}

module _ (at n : ℕ) where
  pub behind-stretch : (old mid : Disk) → Touches (Stretch (at + 1) n) old mid → Touches (Stretch (at + 1) (n + 1)) old mid
  behind-stretch old mid touched = Touches-within (Stretch (at + 1) n) (Stretch (at + 1) (n + 1)) old mid (Stretch-within (at + 1) n (at + 1) (n + 1) (omega arith) (omega arith)) touched

  pub behind-gate : (old mid new : Disk) → Touches (Stretch (at + 1) n) old mid → Touches (Single (at + 1 + n)) mid new → Touches (Stretch (at + 1) (n + 1)) old new
  behind-gate old mid new run gate =
      Touches-join (Stretch (at + 1) (n + 1)) old mid new (behind-stretch old mid run) (Touches-within (Single (at + 1 + n)) (Stretch (at + 1) (n + 1)) mid new (Stretch-single (at + 1) (n + 1) (at + 1 + n) (omega arith, omega arith)) gate)

  pub behind-synced : {T E : Type 0} (r : Result T E) (bytes : List ℕ) (old mid next new : Disk) → Touches (Stretch (at + 1) n) old mid → bytes_at (reads mid) (at + 1) n ≡ bytes → at + 1 + n < length (reads mid)
      → Touches (Single (at + 1 + n)) mid next → reads next ≡ slice_set (reads mid) (at + 1 + n) (gate_bytes Closed) → SyncsAll r next new → WritesBehind at n bytes r old new
  behind-synced r bytes old mid next new run body room gate closed sync = record {
    touched = Touches-settled (Stretch (at + 1) (n + 1)) old next new (behind-gate old mid next run gate) sync.touched;
    body = OnOk-always r (ap (λ c. bytes_at c (at + 1) n) is ∙ bytes_at-same (reads mid) put (at + 1) n (λ i from to. get_or-set_other (reads mid) (at + 1 + n) i (gate_bytes Closed) [] (λ same. omega (arith, same, to))) ∙ body);
    shut = OnOk-always r (ap (λ c. sector_at c (at + 1 + n)) is ∙ get_or-set_same (reads mid) (at + 1 + n) (gate_bytes Closed) [] room);
    synced = sync.synced;
  }
    where
      put : Contents
      put = slice_set (reads mid) (at + 1 + n) (gate_bytes Closed)

      is : reads new ≡ put
      is = sync.same ∙ closed
