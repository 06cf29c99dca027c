-- What indexes of names say stays true.
use Rattle.std.proofs.Common.{rules, ◌≡◌, ◌≢◌, ⊎_elim, ◌∙◌, ℕ, ◌/◌, List, [], ◌∷◌, Some, Contains, Result, sym, ap, subst}
use Rattle.sn_device.specs.Sectors.{Contents}
use Rattle.sn_device.specs.Disk.{Disk, reads}
use Rattle.sn_device.specs.Device.{Writes}
use Rattle.sn_device.specs.declared.status.Status.{Status}
use Rattle.sn_device.proofs.CallLemmas.{Writes-cases}
use Rattle.sn_ondisk.specs.Blocks.{block_at}
use Rattle.sn_ondisk.specs.Trees.{Store, store_of}
use Rattle.sn_names.specs.Indexes.{AllTell}
use Rattle.sn_names.specs.declared.indexes.NameIndexes.{NameIndexes}
use Rattle.sn_block.specs.Cache.{Entry, Coheres, first_number, first_bytes}
use Rattle.sn_block.proofs.BlockLemmas.{block_at-set_other}

-- over a device of as many sectors, which reads the same
pub AllTell-same : (n m : ℕ) (old new : Disk) (names : NameIndexes) → m ≡ n → new ≡ old → AllTell n (store_of (reads old)) names → AllTell m (store_of (reads new)) names
AllTell-same n m old new names count same told =
    subst (λ (k : ℕ). AllTell k (store_of (reads new)) names) (sym count) (subst (λ (d : Disk). AllTell n (store_of (reads d)) names) (sym same) told)

-- in the course of a write, whatever its answer
pub AllTell-write : {T E : Type 0} (at : ℕ) (bytes : List ℕ) (r : Result T E) (old new : Disk) (status : Status) (n m : ℕ) (before after : NameIndexes)
    → ((sectors : ℕ) (s t : Store) → AllTell sectors s before → ((other : ℕ) → other ≢ at / 8 → t other ≡ s other) → AllTell sectors t after)
    → m ≡ n → AllTell n (store_of (reads old)) before → Writes at bytes r old new status → AllTell m (store_of (reads new)) after
AllTell-write at bytes r old new status n m before after forgotten count told call =
    subst (λ (k : ℕ). AllTell k (store_of (reads new)) after) (sym count)
    (forgotten n (store_of (reads old)) (store_of (reads new)) told (λ other apart. ⊎_elim
    (λ w. ap (λ (d : Disk). block_at (reads d) other) w.1 ∙ block_at-set_other (reads old) at other w.0 apart)
    (λ same. ap (λ (d : Disk). block_at (reads d) other) same)
    (Writes-cases at bytes r old new status call)))

-- the block that was used last is what reads give
pub first-bytes : (c : Contents) (es : List Entry) (number : ℕ) → Coheres c es → Some number ≡ first_number es → block_at c number ≡ first_bytes es
first-bytes c [] number coheres is = absurd cc
first-bytes c (e ∷ es) number coheres is =
    let same : number ≡ e.0 = cc in
    let among : Contains (e ∷ es) e = search rules in
    ap (block_at c) same ∙ sym (coheres e among)
