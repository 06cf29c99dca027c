-- Clearing a place, from the write that it makes.
use Rattle.std.proofs.Common.{◌≡◌, ℕ, ◌+◌, ◌*◌, ◌<◌, ◌==◌, ◌||◌, if◌then◌else◌, Bool, true, false, List, [], length, slice_index, slice_set, replicate, Result, Err, refl, sym, ◌∙◌, ap, subst, arith}
use Rattle.std.specs.Prelude.{nat_le}
use Rattle.std.proofs.lemmas.Bool.{eqb-false}
use Rattle.std.proofs.lemmas.List.{get_or-set_same, get_or-set_other}
use Rattle.sn_device.specs.Sectors.{Contents, AreSectors, AgreesOutside, Single, sector_at}
use Rattle.sn_device.specs.Disk.{Disk, reads}
use Rattle.sn_device.specs.Crash.{Touches}
use Rattle.sn_device.proofs.CrashLemmas.{LeavesOnly-torn, Touches-start, Always-synced, IsSynced-only}
use Rattle.sn_layout.specs.Bytes.{zeros}
use Rattle.sn_ondisk.specs.Gates.{gate_at, IsClosed}
use Rattle.sn_ondisk.specs.LogHalf.{ReplaysTo, HasNoLater, cleared_sector}
use Rattle.sn_ondisk.proofs.LogLemmas.{clearing_keeps, clearing_adds}
use Rattle.sn_block.specs.Effects.{WritesSynced}
use Rattle.sn_block.proofs.EffectLemmas.{OnOk-both}
use Rattle.sn_log.specs.Clearing.{Clears}

-- the sector that is written, by its place
pub cleared-at : (c : Contents) (base start place x : ℕ) (gate : List ℕ) → 8 * start ≡ base → gate ≡ sector_at c (8 * start + place)
    → x ≡ (if (slice_index gate 0 == 1) || nat_le 254 place then place else place + 1) → 8 * start + x ≡ cleared_sector c base place
cleared-at c base start place x gate first is here =
    ap (λ y. 8 * start + y) here
    ∙ ap (λ b. 8 * start + (if b || nat_le 254 place then place else place + 1)) (ap (λ s. slice_index s 0 == 1) (is ∙ ap (λ y. sector_at c (y + place)) first))
    ∙ by ((gate_at c (base + place) == 1) || nat_le 254 place)
  where
    by : (b : Bool) → 8 * start + (if b then place else place + 1) ≡ (if b then base + place else base + place + 1)
    by true = omega (arith, first)
    by false = omega (arith, first)

-- zeros close a gate
shut : (c : Contents) (at : ℕ) → at < length c → IsClosed (slice_set c at (zeros 512)) at
unfolding zeros
shut c at room opened =
    let zero_is : 0 ≡ 1 = sym (ap (λ s. slice_index s 0) (get_or-set_same c at (zeros 512) [] room)) ∙ opened in omega (arith, zero_is)

-- and written after a closed one they leave it closed
closed-by : (c : Contents) (base place : ℕ) (opened past : Bool) → base + place < length c → (gate_at c (base + place) == 1) ≡ opened
    → IsClosed (slice_set c (if opened || past then base + place else base + place + 1) (zeros 512)) (base + place)
closed-by c base place true past room is = shut c (base + place) room
closed-by c base place false true room is = shut c (base + place) room
closed-by c base place false false room is =
    λ opened. eqb-false (gate_at c (base + place)) 1 is (sym (ap (λ s. slice_index s 0) (get_or-set_other c (base + place + 1) (base + place) (zeros 512) [] (λ same. omega (arith, same)))) ∙ opened)

module _ (base place : ℕ) (old : Disk) (whole : AreSectors (reads old)) (room : base + place < length (reads old)) where
  abbrev at : ℕ
  at = cleared_sector (reads old) base place

  pub clears : {T E : Type 0} (r : Result T E) (new : Disk) → WritesSynced at (zeros 512) r old new → Clears base place r old new
  clears r new written = record {
    written = written;
    keeps = λ epoch payloads synced found. LeavesOnly-torn (Single at) (λ c. c ≡ reads old) (λ c. ReplaysTo c base epoch payloads place)
        (λ c d whole_c whole_d agrees is. clearing_keeps (reads old) d base epoch place payloads found (subst (λ x. AgreesOutside (Single at) x d) is agrees))
        old new whole (λ c now. IsSynced-only old c synced now) written.touched;
    adds = λ epoch first synced none. LeavesOnly-torn (Single at) (λ c. c ≡ reads old) (λ c. HasNoLater c base epoch)
        (λ c d whole_c whole_d agrees is. clearing_adds (reads old) d base epoch none (subst (λ p. AgreesOutside (Single (cleared_sector (reads old) base p)) (reads old) d) first (subst (λ x. AgreesOutside (Single at) x d) is agrees)))
        old new whole (λ c now. IsSynced-only old c synced now) written.touched;
    closed = OnOk-both r
        (λ is_synced done. Always-synced new (λ c. IsClosed c (base + place)) is_synced (subst (λ c. IsClosed c (base + place)) (sym done) (closed-by (reads old) base place (gate_at (reads old) (base + place) == 1) (nat_le 254 place) room refl)))
        written.synced written.done;
  }

  -- nothing was written
  pub clears-nothing : {T E : Type 0} (e : E) (new : Disk) → new ≡ old → Clears {T = T} base place (Err e) old new
  clears-nothing e new same = clears (Err e) new (record { touched = subst (λ d. Touches (Single at) old d) (sym same) (Touches-start (Single at) old); done = tt; synced = tt })

-- where a read came first, and the zeros and their sector have names of their own
pub clears-at : {T E : Type 0} (base place x : ℕ) (r : Result T E) (old mid new : Disk) (bytes : List ℕ) → AreSectors (reads old) → base + place < length (reads old) → mid ≡ old → x ≡ cleared_sector (reads old) base place → bytes ≡ zeros 512
    → WritesSynced x bytes r mid new → Clears base place r old new
clears-at base place x r old mid new bytes whole room same here blank written =
    clears base place old whole room r new (subst (λ y. WritesSynced y (zeros 512) r old new) here (subst (λ b. WritesSynced x b r old new) blank (subst (λ d. WritesSynced x bytes r d new) same written)))

pub blank : replicate 512 0 ≡ zeros 512
unfolding zeros
blank = refl
