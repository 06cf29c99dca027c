-- How an index begins.
use Rattle.std.proofs.Common.{◌≡◌, ◌≢◌, ◌⊎◌, inl, inr, ℕ, ◌+◌, ◌*◌, ◌/◌, ◌%◌, ◌≤◌, ◌==◌, nat_le, Bool, true, false, if◌then◌else◌, List, ◌++◌, take, drop, Option, Some, None, length, get_or, slice_index, replicate, refl, sym, ap, subst, ◌∙◌, leb-true, arith}
use Rattle.std.proofs.lemmas.Bool.{cases_lt, eqb-true}
use Rattle.std.proofs.lemmas.List.{get_or-replicate, get_or_past, length-replicate, drop_all, take_all, append-nil}
use Rattle.sn_layout.specs.Pointers.{levels_of}
use Rattle.sn_layout.specs.declared.tree.BlockTree.{BlockTree}
use Rattle.sn_ondisk.specs.Blocks.{numbers_in}
use Rattle.sn_ondisk.specs.Trees.{Store, below, entry}
use Rattle.sn_names.specs.Place.{lying_on, IsFrom}
use Rattle.sn_names.specs.Told.{IsPlaced, Knows, IsTold}

-- a list that was lent as a whole and written
pub whole : {X : Type 0} (old new : List X) (n : ℕ) → length new ≡ length old → n ≡ length old → take n (new ++ drop (length new) old) ≡ new
whole {X} old new n same count =
    ap (λ (xs : List X). take n (new ++ xs)) (drop_all (length new) old (omega arith))
    ∙ ap (take n) (append-nil new)
    ∙ take_all n new (omega arith)

pub everywhere : {X : Type 0} (x : X) (n i : ℕ) → get_or (replicate n x) i x ≡ x
everywhere x n i = elim (cases_lt i n) [
  | inl within ↦ get_or-replicate n i x x within
  | inr past ↦ get_or_past (replicate n x) i x (omega (arith, length-replicate n x))
]

-- a pointer that is kept is the one that was read, and is on the device
pub lying : (sectors pointer number : ℕ) → number ≡ lying_on sectors pointer → number ≢ 0 → (pointer ≡ number) × (8 * number + 8 ≤ sectors)
lying sectors pointer number is some = by_test (nat_le (8 * pointer + 8) sectors) refl is
  where
    by_test : (b : Bool) → nat_le (8 * pointer + 8) sectors ≡ b → number ≡ (if b then pointer else 0) → (pointer ≡ number) × (8 * number + 8 ≤ sectors)
    by_test true within same = let lies = leb-true (8 * pointer + 8) sectors within in (sym same, omega arith)
    by_test false within none = absurd (some none)

top_entry : (s : Store) (level : ℕ) (pointers : List ℕ) (i : ℕ) → level ≡ 0 → entry s level pointers i ≡ slice_index pointers i
unfolding entry
top_entry s level pointers i top = ap (λ (n : ℕ). entry s n pointers i) top

pub begun : (sectors : ℕ) (s : Store) (tree : BlockTree) (numbers : List ℕ) (rooms : List (Option ℕ)) (entries : List ℕ)
    → ((i : ℕ) → (slice_index numbers i ≡ 0) ⊎ (levels_of tree.size ≡ 0) × IsFrom sectors tree.pointers i (slice_index numbers i))
    → ((i : ℕ) → get_or rooms i None ≡ None) → IsTold sectors s tree numbers rooms entries
begun sectors s tree numbers rooms entries placed unknown = record {
  placed = λ i some. elim (placed i) [
    | inl none ↦ absurd (some none)
    | inr from ↦ let at = lying sectors (slice_index tree.pointers i) (slice_index numbers i) from.1 some in record {
      place = top_entry s (levels_of tree.size) tree.pointers i from.0 ∙ at.0;
      lies = at.1;
      above = λ deep. absurd (deep from.0);
    }
  ];
  somewhere = λ i room is. absurd (none_some (get_or rooms i None) room (unknown i) is);
  known = λ i room is. absurd (none_some (get_or rooms i None) room (unknown i) is);
}
  where
    none_some : (o : Option ℕ) (room : ℕ) → o ≡ None → o ≡ Some room → ⊥
    none_some o room none some = cc

-- ---- one level down

next_entry : (s : Store) (level : ℕ) (pointers : List ℕ) (i : ℕ) → level ≡ 1 → entry s level pointers i ≡ slice_index (below s (slice_index pointers (i / 1024))) (i % 1024)
unfolding entry
next_entry s level pointers i one = ap (λ (n : ℕ). entry s n pointers i) one

chosen : (b : Bool) (x y : List ℕ) → b ≡ false → (if b then x else y) ≡ y
chosen true x y is = absurd cc
chosen false x y is = refl

not_hole : (p : ℕ) → p ≢ 0 → (p == 0) ≡ false
not_hole p some = by_test (p == 0) refl
  where
    by_test : (b : Bool) → (p == 0) ≡ b → b ≡ false
    by_test true is = absurd (some (eqb-true p 0 is))
    by_test false is = refl

below_some : (s : Store) (p : ℕ) → p ≢ 0 → below s p ≡ numbers_in 1024 (s p)
unfolding below
below_some s p some = chosen (p == 0) (replicate 1024 0) (numbers_in 1024 (s p)) (not_hole p some)

pub placed_below : (sectors : ℕ) (s : Store) (tree : BlockTree) (numbers more : List ℕ) (rooms : List (Option ℕ)) (entries : List ℕ) (top : ℕ) (block : List ℕ)
    → levels_of tree.size ≤ 1
    → ((i : ℕ) → (slice_index more i ≡ slice_index numbers i) ⊎ (slice_index numbers i ≡ 0) × (i / 1024 ≡ top) × IsFrom sectors (numbers_in 1024 block) (i % 1024) (slice_index more i))
    → IsTold sectors s tree numbers rooms entries → levels_of tree.size ≢ 0 → slice_index tree.pointers top ≢ 0 → 8 * slice_index tree.pointers top + 8 ≤ sectors
    → s (slice_index tree.pointers top) ≡ block → IsTold sectors s tree more rooms entries
placed_below sectors s tree numbers more rooms entries top block level placed t deep some lies bytes = record {
  placed = λ i there. elim (placed i) [
    | inl same ↦ subst (IsPlaced sectors s tree i) (sym same) (t.placed i (λ none. there (same ∙ none)))
    | inr from ↦
        let at = lying sectors (slice_index (numbers_in 1024 block) (i % 1024)) (slice_index more i) from.2 there in
        let pointer = slice_index tree.pointers top in
        let one : levels_of tree.size ≡ 1 = omega (arith, deep) in
        record {
          place = next_entry s (levels_of tree.size) tree.pointers i one
              ∙ ap (λ (k : ℕ). slice_index (below s (slice_index tree.pointers k)) (i % 1024)) from.1
              ∙ ap (λ (ps : List ℕ). slice_index ps (i % 1024)) (below_some s pointer some ∙ ap (numbers_in 1024) bytes)
              ∙ at.0;
          lies = at.1;
          above = λ _. subst (λ (k : ℕ). 8 * slice_index tree.pointers k + 8 ≤ sectors) (sym from.1) lies;
        }
  ];
  somewhere = λ i room is. elim (placed i) [
    | inl same ↦ λ none. t.somewhere i room is (sym same ∙ none)
    | inr from ↦ absurd (t.somewhere i room is from.0)
  ];
  known = λ i room is. elim (placed i) [
    | inl same ↦ subst (λ (n : ℕ). Knows entries i room (s n)) (sym same) (t.known i room is)
    | inr from ↦ absurd (t.somewhere i room is from.0)
  ];
}
