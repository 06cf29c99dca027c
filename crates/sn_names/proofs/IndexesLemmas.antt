-- The indexes that are kept.
use Rattle.std.proofs.Common.{◌≡◌, ◌≢◌, ◌⊎◌, inl, inr, ℕ, ◌+◌, ◌<◌, ◌≤◌, Bool, true, false, if◌then◌else◌, Result, Ok, Err, OnOk, List, [], ◌∷◌, ◌++◌, length, get_or, sym, subst, ◌∙◌, arith}
use Rattle.std.specs.List.{All, Contains, remove}
use Rattle.std.specs.Result.{is_err}
use Rattle.std.specs.List.Sorted.{IsPermutation}
use Rattle.std.proofs.lemmas.Bool.{cases_lt}
use Rattle.std.proofs.lemmas.List.{get_or_default}
use Rattle.std.proofs.lemmas.List.Edits.{length-remove, get_or-remove_below, get_or-remove_above}
use Rattle.std.proofs.lemmas.List.Elements.{All-push, Contains-append_left, Contains-append_right}
use Rattle.std.proofs.lemmas.List.Sorted.{Contains-permutation}
use Rattle.sn_layout.specs.declared.tree.BlockTree.{BlockTree}
use Rattle.sn_ondisk.specs.Trees.{Store}
use Rattle.sn_names.specs.declared.index.NameIndex.{NameIndex}
use Rattle.sn_names.specs.Index.{RestsOn, Tells, entries_of}
use Rattle.sn_names.proofs.ToldLemmas.{stays}

pub all_removed : {X : Type 0} (P : X → Type 0) (xs : List X) (i : ℕ) → i < length xs → All P xs → All P (remove xs i)
all_removed P xs i within all = λ k d before.
    let count = length-remove xs i within in
    elim (cases_lt k i) [
      | inl sooner ↦ subst P (sym (get_or-remove_below xs i d k sooner within)) (all k d (omega (arith, count)))
      | inr later ↦ subst P (sym (get_or-remove_above xs i d k later within)) (all (k + 1) d (omega (arith, count)))
    ]

-- the one that was removed was one of all
pub of_all : {X : Type 0} (P : X → Type 0) (xs : List X) (i : ℕ) (x : X) → i < length xs → x ≡ get_or xs i x → All P xs → P x
of_all P xs i x within is all = subst P (sym is) (all i x within)

-- a search that finds no place of a number
pub not_among : (xs : List ℕ) (x at : ℕ) → ((k : ℕ) → k < at → get_or xs k 0 < x) → ((k : ℕ) → at ≤ k → k < length xs → x < get_or xs k 0) → Contains xs x → ⊥
not_among xs x at below above h =
    let e : get_or xs h.0 0 ≡ x = get_or_default xs h.0 0 x h.1 ∙ h.2 in
    elim (cases_lt h.0 at) [
      | inl sooner ↦ let g = below h.0 sooner in omega arith
      | inr later ↦ let g = above h.0 later h.1 in omega arith
    ]

-- an index that doesn't rest on a block stays true whatever is written there
pub stays_beside : (sectors : ℕ) (s r : Store) (index : NameIndex) (block : ℕ) → Tells sectors s index → (RestsOn index block → ⊥) → ((other : ℕ) → other ≢ block → r other ≡ s other) → Tells sectors r index
stays_beside sectors s r index block told free same =
    stays sectors s r index.tree index.numbers.items index.rooms.items (entries_of index) index.level told
    (λ b some has. same b (λ is. free (subst (RestsOn index) is (some, inl has))))
    (λ b some has. same b (λ is. free (subst (RestsOn index) is (some, inr has))))

-- an index rests on the same blocks while its pointers stay
pub rests_same : (old new : NameIndex) (block : ℕ) → new.tree ≡ old.tree → new.numbers.items ≡ old.numbers.items → RestsOn new block → RestsOn old block
rests_same old new block trees numbers rests = (
  rests.0,
  elim rests.1 [
    | inl has ↦ inl (subst (λ (t : BlockTree). Contains t.pointers block) trees has)
    | inr has ↦ inr (subst (λ (xs : List ℕ). Contains xs block) numbers has)
  ],
)

pub reached_all : (numbers pointers xs ys both sorted : List ℕ) → xs ≡ numbers → ys ≡ pointers → both ≡ xs ++ ys → IsPermutation both sorted
    → (block : ℕ) → Contains pointers block ⊎ Contains numbers block → Contains sorted block
reached_all numbers pointers xs ys both sorted first second joined order block has =
    Contains-permutation both sorted block order (subst (λ (l : List ℕ). Contains l block) (sym joined) (elim has [
      | inl p ↦ Contains-append_right xs ys block (subst (λ (l : List ℕ). Contains l block) (sym second) p)
      | inr n ↦ Contains-append_left xs ys block (subst (λ (l : List ℕ). Contains l block) (sym first) n)
    ]))

-- what was put after others, if there was memory for it
pub all_pushed : {X : Type 0} (P : X → Type 0) (xs ys : List X) (x : X) (b : Bool) → ys ≡ (if b then xs ++ x ∷ [] else xs) → All P xs → P x → All P ys
all_pushed P xs ys x true is all last = subst (All P) (sym is) (All-push P xs x all last)
all_pushed P xs ys x false is all last = subst (All P) (sym is) all

-- what a call promised of its success
pub on_ok : {T E : Type 0} (r : Result T E) (P : Type 0) → is_err r ≡ false → OnOk r P → P
on_ok (Ok x) P good h = h
on_ok (Err e) P good h = absurd cc
