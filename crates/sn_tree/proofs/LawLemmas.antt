-- When what is wanted of a tree ends at its size.
use Rattle.std.proofs.Common.{◌≡◌, ⊎_elim, ℕ, suc, ◌+◌, ◌-◌, ◌*◌, ◌<◌, ◌≤◌, ◌==◌, ◌||◌, Bool, true, false, List, [], ◌∷◌, get_or, slice_index, refl, ap, ◌∙◌, arith, if◌then◌else◌}
use Rattle.std.specs.Prelude.{◌^◌, nat_lt}
use Rattle.std.specs.List.{AllByRecursion, list_all, enumerate_from}
use Rattle.std.proofs.lemmas.Bool.{cases_lt, eq-eqb, eqb-true, lt-ltb, ltb-true}
use Rattle.std.proofs.lemmas.List.{get_or-replicate}
use Rattle.sn_layout.specs.Bytes.{zeros}
use Rattle.sn_layout.specs.BlockTree.{ends_at_size}
use Rattle.sn_layout.specs.Pointers.{levels_of, span_of}
use Rattle.sn_layout.specs.declared.tree.BlockTree.{BlockTree}
use Rattle.sn_ondisk.specs.Trees.{Store, entry, data_block}
use Rattle.sn_image.specs.Sound.{EndsAtSize}
use Rattle.sn_tree.specs.Dirty.{block_wanted, block_after}
use Rattle.sn_tree.specs.Orders.{KeepsWithin}
use Rattle.sn_tree.specs.Replanned.{EndsAt}
use Rattle.sn_tree.specs.Laws.{EndsBy}
use Rattle.sn_tree.specs.declared.new_block.DirtyBlock.{DirtyBlock}

module _ (old : ℕ → List ℕ) (size keep : ℕ) (stay : (i k : ℕ) → i < keep → k < 4096 → size ≤ 4096 * i + k → get_or (old i) k 0 ≡ 0) where
  pub past_zero : (ds : List DirtyBlock) → AllByRecursion (EndsBy size) ds → (i k : ℕ) → k < 4096 → size ≤ 4096 * i + k → get_or (block_after keep ds i (old i)) k 0 ≡ 0
  unfolding block_wanted zeros
  past_zero [] all i k within far = either (nat_lt i keep) refl
    where
      either : (b : Bool) → nat_lt i keep ≡ b → get_or (if b then old i else zeros 4096) k 0 ≡ 0
      either true low = stay i k (ltb-true i keep low) within far
      either false _ = get_or-replicate 4096 k 0 0 within
  past_zero (d ∷ ds) all i k within far = either (past_zero ds all.1 i k within far) (d.index == i) refl
    where
      either : get_or (block_after keep ds i (old i)) k 0 ≡ 0 → (b : Bool) → (d.index == i) ≡ b → get_or (if b then d.bytes.value else block_after keep ds i (old i)) k 0 ≡ 0
      either later true is = let here : d.index ≡ i = eqb-true d.index i is in all.0.past k within (omega (arith, far, here))
      either later false _ = later

pub begin : (size : ℕ) (ds : List DirtyBlock) → AllByRecursion (EndsBy size) ds → AllByRecursion (λ (d : DirtyBlock). 4096 * d.index < size) ds
begin size [] all = tt
begin size (d ∷ ds) all = (all.0.begins, begin size ds all.1)

pub grown_end : (s : Store) (old : BlockTree) (size keep : ℕ) (dirty : List DirtyBlock) → EndsAtSize s old → old.size ≤ size → KeepsWithin size keep → AllByRecursion (EndsBy size) dirty → EndsAt (data_block s old) size keep dirty
grown_end s old size keep dirty ends larger stays all = record {
  stays = stays;
  begins = begin size dirty all;
  past = past_zero (data_block s old) size keep (λ i k low within far. ends.bytes i k within (omega (arith, far, larger))) dirty all;
}

pub cut_end : (s : Store) (old : BlockTree) (size keep : ℕ) (dirty : List DirtyBlock) → 4096 * keep ≤ size → AllByRecursion (EndsBy size) dirty → EndsAt (data_block s old) size keep dirty
cut_end s old size keep dirty whole all = record {
  stays = omega (arith, whole);
  begins = begin size dirty all;
  past = past_zero (data_block s old) size keep (λ i k low within far. absurd (omega (arith, low, within, far, whole))) dirty all;
}

-- ---- the sixteen pointers

pointers_end : (size span k : ℕ) (ps : List ℕ) → ((i : ℕ) → size ≤ (k + i) * span → slice_index ps i ≡ 0) → list_all (λ p. (p.1 == 0) || nat_lt (p.0 * span) size) (enumerate_from k ps) ≡ true
pointers_end size span k [] holes = refl
pointers_end size span k (p ∷ ps) holes =
    let here : ((p == 0) || nat_lt (k * span) size) ≡ true = ⊎_elim
    (λ (before : k * span < size). either (p == 0) (nat_lt (k * span) size) (lt-ltb (k * span) size before))
    (λ (past : size ≤ k * span). ap (λ (b : Bool). b || nat_lt (k * span) size) (eq-eqb p 0 (holes 0 (omega (arith, past)))))
    (cases_lt (k * span) size) in
    rw here (pointers_end size span (k + 1) ps (λ i far. holes (suc i) (let at : (k + suc i) * span ≡ (k + 1 + i) * span = ap (λ (n : ℕ). n * span) (let n : k + suc i ≡ k + 1 + i = omega arith in n) in omega (arith, far, at))))
  where
    either : (a b : Bool) → b ≡ true → (a || b) ≡ true
    either true b is = refl
    either false b is = is

pub ended_pointers : (s : Store) (tree : BlockTree) → EndsAtSize s tree → ends_at_size tree ≡ true
unfolding entry
ended_pointers s tree ends =
    let whole : levels_of tree.size - 0 ≡ levels_of tree.size = omega arith in
    pointers_end tree.size (span_of tree.size) 0 tree.pointers (λ i far.
    let wide : i * (4096 * 1024 ^ (levels_of tree.size - 0)) ≡ (0 + i) * span_of tree.size = ap (λ (n : ℕ). i * (4096 * 1024 ^ n)) whole ∙ ap (λ (n : ℕ). n * span_of tree.size) (let n : i ≡ 0 + i = omega arith in n) in
    ends.pointers 0 i (omega arith) (omega (arith, far, wide)))
