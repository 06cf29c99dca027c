-- How an index learns the names of a block.
use Rattle.std.proofs.Common.{◌≡◌, ◌≢◌, ◌⊎◌, inl, inr, ℕ, zero, suc, ◌-◌, ◌<◌, Bool, true, false, if◌then◌else◌, List, [], ◌∷◌, Option, Some, None, length, get_or, set, slice_index, refl, sym, ap, subst, ◌∙◌, arith}
use Rattle.std.specs.List.{All, Contains}
use Rattle.std.specs.Str.{bytes_eq}
use Rattle.std.proofs.lemmas.Bool.{cases_eq}
use Rattle.std.proofs.lemmas.Slice.Eq.{bytes_eq-Decides}
use Rattle.std.proofs.lemmas.List.Elements.{All-head, All-tail}
use Rattle.std.proofs.lemmas.List.{get_or-set_same, get_or-set_other}
use Rattle.sn_layout.specs.declared.tree.BlockTree.{BlockTree}
use Rattle.sn_layout_node.specs.Directory.{Link, Spells, links_bytes, number_of}
use Rattle.sn_layout_node.proofs.Changes.{links_in}
use Rattle.sn_ondisk.specs.Trees.{Store}
use Rattle.sn_names.specs.Prints.{entry_for}
use Rattle.sn_names.specs.Search.{HasAll}
use Rattle.sn_names.specs.Told.{Knows, IsTold, links_before}

-- ---- what a list has

pub contains_cases : {X : Type 0} (x : X) (xs : List X) (y : X) → Contains (x ∷ xs) y → (y ≡ x) ⊎ Contains xs y
contains_cases x xs y (zero, within, is) = inl (sym is)
contains_cases x xs y (suc k, within, is) = inr (k, omega arith, is)

pub contains_first : {X : Type 0} (x : X) (xs : List X) → Contains (x ∷ xs) x
contains_first x xs = (0, omega arith, refl)

pub contains_more : {X : Type 0} (x : X) (xs : List X) (y : X) → Contains xs y → Contains (x ∷ xs) y
contains_more x xs y (k, within, is) = (suc k, omega arith, is)

pub contains_none : {X : Type 0} (y : X) → Contains [] y → ⊥
contains_none y (k, within, is) = omega arith

-- ---- a block that becomes known

-- more entries say no less
pub knows_more : (old new : List ℕ) (i room : ℕ) (block : List ℕ) → HasAll old new → Knows old i room block → Knows new i room block
knows_more old new i room block all k = record {
  spelled = k.spelled;
  left = k.left;
  listed = λ name none. k.listed name (λ has. none (all (entry_for name i) has));
}

-- a name that isn't listed isn't there, where all that are there are listed
absent : (entries : List ℕ) (i : ℕ) (name : List ℕ) (links : List Link) → All (λ (link : Link). Contains entries (entry_for link.name i)) links → (Contains entries (entry_for name i) → ⊥) → number_of name links ≡ None
absent entries i name [] all none = refl
absent entries i name (link ∷ links) all none = by_test (bytes_eq link.name name) refl (absent entries i name links (All-tail (λ (l : Link). Contains entries (entry_for l.name i)) link links all) none)
  where
    by_test : (b : Bool) → bytes_eq link.name name ≡ b → number_of name links ≡ None → (if b then Some link.number else number_of name links) ≡ None
    by_test true is rest = absurd (none (subst (λ (n : List ℕ). Contains entries (entry_for n i)) ((bytes_eq-Decides link.name name).0 is) (All-head (λ (l : Link). Contains entries (entry_for l.name i)) link links all)))
    by_test false is rest = rest

pub knows_block : (entries : List ℕ) (i room : ℕ) (block : List ℕ) (names : List Link) → Spells block names → room ≡ 4096 - length (links_bytes names)
    → All (λ (link : Link). Contains entries (entry_for link.name i)) names → Knows entries i room block
knows_block entries i room block names spells left listed =
    let size : 4096 - room ≡ length (links_bytes names) = let fit = spells.fit.room in omega arith in
    let same : links_before room block ≡ names = links_in block names (4096 - room) spells size in
    record {
      spelled = subst (Spells block) (sym same) spells;
      left = ap (λ (links : List Link). 4096 - length (links_bytes links)) same ∙ sym left;
      listed = λ name none. ap (number_of name) same ∙ absent entries i name names listed none;
    }

room_inj : (a b : ℕ) → Some a ≡ Some b → a ≡ b
room_inj a b e = cc

-- what is said with more entries, and one room more
learned_at : (sectors : ℕ) (s : Store) (tree : BlockTree) (numbers : List ℕ) (rooms : List (Option ℕ)) (entries more : List ℕ) (i number room : ℕ)
    → IsTold sectors s tree numbers rooms entries → HasAll entries more → i < length rooms → slice_index numbers i ≡ number → number ≢ 0 → Knows more i room (s number)
    → IsTold sectors s tree numbers (set rooms i (Some room)) more
learned_at sectors s tree numbers rooms entries more i number room t all within there some knows = record {
  placed = t.placed;
  somewhere = λ j r is. elim (cases_eq j i) [
    | inl same ↦ λ none. some (sym there ∙ ap (slice_index numbers) (sym same) ∙ none)
    | inr other ↦ t.somewhere j r (sym (get_or-set_other rooms i j (Some room) None other) ∙ is)
  ];
  known = λ j r is. elim (cases_eq j i) [
    | inl same ↦
        let here : Some room ≡ Some r = sym (get_or-set_same rooms i (Some room) None within) ∙ ap (λ (k : ℕ). get_or (set rooms i (Some room)) k None) (sym same) ∙ is in
        let placed : s number ≡ s (slice_index numbers j) = ap s (sym there ∙ ap (slice_index numbers) (sym same)) in
        subst (λ (k : ℕ). Knows more k r (s (slice_index numbers j))) (sym same) (subst (λ (q : ℕ). Knows more i q (s (slice_index numbers j))) (room_inj room r here) (subst (Knows more i room) placed knows))
    | inr other ↦ knows_more entries more j r (s (slice_index numbers j)) all (t.known j r (sym (get_or-set_other rooms i j (Some room) None other) ∙ is))
  ];
}

pub learned : (sectors : ℕ) (s : Store) (tree tree' : BlockTree) (numbers numbers' : List ℕ) (rooms rooms' : List (Option ℕ)) (entries more : List ℕ) (i number room : ℕ) (block : List ℕ) (names : List Link)
    → tree' ≡ tree → numbers' ≡ numbers → rooms' ≡ set rooms i (Some room) → HasAll entries more → All (λ (link : Link). Contains more (entry_for link.name i)) names
    → Spells block names → room ≡ 4096 - length (links_bytes names) → i < length rooms → slice_index numbers i ≡ number → number ≢ 0
    → IsTold sectors s tree numbers rooms entries → s number ≡ block → IsTold sectors s tree' numbers' rooms' more
learned sectors s tree tree' numbers numbers' rooms rooms' entries more i number room block names same_tree same_numbers same_rooms all listed spells left within there some t bytes =
    subst (λ (x : BlockTree). IsTold sectors s x numbers' rooms' more) (sym same_tree)
    (subst (λ (x : List ℕ). IsTold sectors s tree x rooms' more) (sym same_numbers)
    (subst (λ (x : List (Option ℕ)). IsTold sectors s tree numbers x more) (sym same_rooms)
    (learned_at sectors s tree numbers rooms entries more i number room t all within there some
    (subst (Knows more i room) (sym bytes) (knows_block more i room block names spells left listed)))))
