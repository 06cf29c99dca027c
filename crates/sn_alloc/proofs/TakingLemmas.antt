-- What holds for each allocator still holds when it takes a block, and when it finds none.
use Rattle.std.proofs.Common.{◌≡◌, ◌≢◌, ℕ, zero, suc, ◌+◌, ◌-◌, ◌<◌, ◌≤◌, List, [], ◌∷◌, ◌++◌, length, drop, get_or, cond, count_by, inl, inr, sym, ap, subst, ◌∙◌, arith, add-zero}
use Rattle.std.specs.List.{All, Contains}
use Rattle.std.specs.List.Sorted.{IsStrictlyIncreasing}
use Rattle.std.proofs.lemmas.Bool.{cases_lt, ne_eqb, eq-eqb}
use Rattle.std.proofs.lemmas.List.{length_push, get_or_append_left, get_or_push, drop_all}
use Rattle.std.proofs.lemmas.List.Elements.{All-push, All-weaker, All-same, Contains-push, Contains-append_left}
use Rattle.std.proofs.lemmas.List.Sums.{sum_by-drop_more}
use Rattle.sn_map.specs.Free.{is_free_word, IsNextFree, NoneFree}
use Rattle.sn_alloc.specs.Taking.{Taking, IsFreeData, IsTaking, free_data}

-- a larger number at the end
increasing_push : (xs : List ℕ) (y : ℕ) → IsStrictlyIncreasing xs → All (λ x. x < y) xs → IsStrictlyIncreasing (xs ++ y ∷ [])
increasing_push xs y rises below k within =
    elim (cases_lt (k + 1) (length xs)) [
      | inl inside ↦
          let here = get_or_append_left xs (y ∷ []) 0 k (omega arith) in
          let there = get_or_append_left xs (y ∷ []) 0 (k + 1) inside in
          omega (arith, rises k inside)
      | inr past ↦
          let last : length xs ≡ k + 1 = omega (arith, length_push xs y) in
          let here = get_or_append_left xs (y ∷ []) 0 k (omega arith) in
          let there = get_or_push xs y 0 (k + 1) last in
          omega (arith, below k 0 (omega arith))
    ]

-- a word that is not 0 is not counted, and one that is 0 is one more
uncounted : (words : List ℕ) (from : ℕ) → from < length words → get_or words from 0 ≢ 0 → count_by is_free_word (drop from words) ≡ 0 + count_by is_free_word (drop (from + 1) words)
uncounted words from within taken =
    sum_by-drop_more (λ word. cond (is_free_word word) 1 0) words from 0 within
    ∙ ap (λ b. cond b 1 0 + count_by is_free_word (drop (from + 1) words)) (ne_eqb (get_or words from 0) 0 taken)

counted_once : (words : List ℕ) (from : ℕ) → from < length words → get_or words from 0 ≡ 0 → count_by is_free_word (drop from words) ≡ 1 + count_by is_free_word (drop (from + 1) words)
counted_once words from within free =
    sum_by-drop_more (λ word. cond (is_free_word word) 1 0) words from 0 within
    ∙ ap (λ b. cond b 1 0 + count_by is_free_word (drop (from + 1) words)) (eq-eqb (get_or words from 0) 0 free)

-- words that are not 0 are not counted
passed : (words : List ℕ) (d from : ℕ) → from + d ≤ length words → ((block : ℕ) → from ≤ block → block < from + d → get_or words block 0 ≢ 0) → count_by is_free_word (drop from words) ≡ count_by is_free_word (drop (from + d) words)
passed words zero from within none = ap (λ n. count_by is_free_word (drop n words)) (sym (add-zero from))
passed words (suc d) from within none =
    let here = uncounted words from (omega arith) (none from (omega arith) (omega arith)) in
    let rest = passed words d (from + 1) (omega arith) (λ block low high. none block (omega arith) (omega arith)) in
    let same : from + 1 + d ≡ from + suc d = omega arith in
    let end = ap (λ n. count_by is_free_word (drop n words)) same in
    omega arith

-- the words counted from the next search on are one more than those from the block on that it finds
counted_past : (words : List ℕ) (next block : ℕ) → IsNextFree words next block → count_by is_free_word (drop next words) ≡ 1 + count_by is_free_word (drop (block + 1) words)
counted_past words next block found =
    let there : next + (block - next) ≡ block = omega (arith, found.not_before) in
    passed words (block - next) next (omega (arith, found.within)) (λ other low high. found.first other low (omega arith))
    ∙ ap (λ n. count_by is_free_word (drop n words)) there
    ∙ counted_once words block found.within found.free

-- none is counted from the next search on where it finds none
counted_none : (words : List ℕ) (next : ℕ) → next ≤ length words → NoneFree words next → count_by is_free_word (drop next words) ≡ 0
counted_none words next within none =
    let end : next + (length words - next) ≡ length words = omega arith in
    passed words (length words - next) next (omega arith) (λ block low high. none block low (omega arith))
    ∙ ap (λ n. count_by is_free_word (drop n words)) end
    ∙ ap (count_by is_free_word) (drop_all (length words) words (omega arith))

-- a free block is taken already, or is the one that is found next, or comes after it
every_taken : (t : Taking) (block : ℕ) → IsTaking t → IsNextFree t.words t.next block → (other : ℕ) → IsFreeData t.words t.first other → other < block + 1 → Contains (t.taken ++ block ∷ []) other
every_taken t block so_far found other is_free below =
    elim (cases_lt other t.next) [
      | inl before ↦ Contains-append_left t.taken (block ∷ []) other (so_far.every other is_free before)
      | inr past ↦ elim (cases_lt other block) [
        | inl between ↦ absurd (found.first other past between is_free.free)
        | inr at ↦
            let same : block ≡ other = omega arith in
            subst (λ (b : ℕ). Contains (t.taken ++ block ∷ []) b) same (Contains-push t.taken block)
      ]
    ]

pub took : (t : Taking) (block looked room : ℕ) (taken : List ℕ) → IsTaking t → IsNextFree t.words t.next block → taken ≡ t.taken ++ block ∷ [] → looked ≡ t.looked + (block - t.next + 1) → IsTaking (record t { taken = taken; next = block + 1; looked = looked; room = room })
took t block looked room taken so_far found e counts =
    let Before : ℕ → Type 0 = λ b. IsFreeData t.words t.first b × (b < t.next) in
    let After : ℕ → Type 0 = λ b. IsFreeData t.words t.first b × (b < block + 1) in
    let free : IsFreeData t.words t.first block =
    record { in_data_area = omega (arith, so_far.began, found.not_before); within = found.within; free = found.free } in
    let later : All After t.taken = All-weaker Before After (λ b h. (h.0, omega (arith, h.1, found.not_before))) t.taken so_far.each in
    let below : All (λ b. b < block) t.taken = All-weaker Before (λ b. b < block) (λ b h. omega (arith, h.1, found.not_before)) t.taken so_far.each in
    record {
      began = omega (arith, so_far.began, found.not_before);
      within = omega (arith, found.within);
      each = All-same After taken (t.taken ++ block ∷ []) e (All-push After t.taken block later (free, omega arith));
      every = λ other is_free lt. subst (λ (xs : List ℕ). Contains xs other) (sym e) (every_taken t block so_far found other is_free lt);
      ascending = subst (λ (xs : List ℕ). IsStrictlyIncreasing xs) (sym e) (increasing_push t.taken block so_far.ascending below);
      counted = omega (arith, so_far.counted, counted_past t.words t.next block found, ap length e, length_push t.taken block);
      looked_once = omega (arith, so_far.looked_once, found.not_before, counts);
    }

pub found_none : (t : Taking) (end looked room : ℕ) → IsTaking t → NoneFree t.words t.next → end ≡ length t.words → looked ≡ t.looked + (end - t.next) → IsTaking (record t { next = end; looked = looked; room = room })
found_none t end looked room so_far none at counts =
    let Before : ℕ → Type 0 = λ b. IsFreeData t.words t.first b × (b < t.next) in
    let After : ℕ → Type 0 = λ b. IsFreeData t.words t.first b × (b < end) in
    record {
      began = omega (arith, so_far.began, so_far.within, at);
      within = omega (arith, at);
      each = All-weaker Before After (λ b h. (h.0, omega (arith, h.0.within, at))) t.taken so_far.each;
      every = λ other is_free lt. elim (cases_lt other t.next) [
        | inl before ↦ so_far.every other is_free before
        | inr past ↦ absurd (none other past is_free.within is_free.free)
      ];
      ascending = so_far.ascending;
      counted = omega (arith, so_far.counted, counted_none t.words t.next so_far.within none, ap (count_by is_free_word) (drop_all end t.words (omega (arith, at))));
      looked_once = omega (arith, so_far.looked_once, so_far.within, at, counts);
    }

-- where no word from the next place on is 0, as many blocks are taken as were free
pub all_taken : (t : Taking) → IsTaking t → NoneFree t.words t.next → length t.taken ≡ free_data t.words t.first
all_taken t so_far none = omega (arith, so_far.counted, counted_none t.words t.next so_far.within none)
