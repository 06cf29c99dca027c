-- What an index takes over from another one.
use Rattle.std.proofs.Common.{◌≡◌, ◌≢◌, ◌⊎◌, inl, inr, ℕ, ◌+◌, ◌*◌, ◌%◌, ◌<◌, ◌≤◌, ◌==◌, not, ◌&&◌, Bool, true, false, List, Option, Some, None, is_some, length, get_or, slice_index, refl, sym, ap, subst, arith}
use Rattle.std.specs.List.{Contains}
use Rattle.std.proofs.lemmas.Bool.{cases_lt, eqb-true, eqb-false}
use Rattle.std.proofs.lemmas.List.{get_or_past}
use Rattle.sn_layout.specs.declared.tree.BlockTree.{BlockTree}
use Rattle.sn_ondisk.specs.Trees.{Store}
use Rattle.sn_names.specs.Prints.{print_of, entry_for}
use Rattle.sn_names.specs.Share.{shares}
use Rattle.sn_names.specs.Search.{HasAll}
use Rattle.sn_names.specs.Told.{Knows, IsTold}
use Rattle.sn_names.proofs.LearnLemmas.{knows_more}

-- past the end nothing is shared
pub shares_past : (numbers others : List ℕ) (rooms : List (Option ℕ)) (i : ℕ) → length numbers ≤ i → shares numbers others rooms i ≡ false
shares_past numbers others rooms i past =
    ap (λ (n : ℕ). not (n == 0) && (n == slice_index others i) && is_some (get_or rooms i None)) (get_or_past numbers i 0 past)

shared : (n m : ℕ) (known : Bool) → (not (n == 0) && (n == m) && known) ≡ true → (n ≢ 0) × (n ≡ m)
shared n m known is = by_test (n == 0) (n == m) refl refl is
  where
    by_test : (a b : Bool) → (n == 0) ≡ a → (n == m) ≡ b → (not a && b && known) ≡ true → (n ≢ 0) × (n ≡ m)
    by_test true b first second both = absurd cc
    by_test false true first second both = (eqb-false n 0 first, eqb-true n m second)
    by_test false false first second both = absurd cc

-- what is shared is at a place, and the same in both
pub shares_true : (numbers others : List ℕ) (rooms : List (Option ℕ)) (i : ℕ) → shares numbers others rooms i ≡ true → (slice_index numbers i ≢ 0) × (slice_index numbers i ≡ slice_index others i)
shares_true numbers others rooms i is = shared (slice_index numbers i) (slice_index others i) (is_some (get_or rooms i None)) is

within : (xs : List ℕ) (i : ℕ) → slice_index xs i ≢ 0 → i < length xs
within xs i some = elim (cases_lt i (length xs)) [ inl before ↦ before | inr past ↦ absurd (some (get_or_past xs i 0 past)) ]

pub block_of_entry : (print i : ℕ) → i < 16384 → (16384 * print + i) % 16384 ≡ i
block_of_entry print i small = omega arith

pub taken_over : (sectors : ℕ) (s : Store) (tree tree' : BlockTree) (numbers others : List ℕ) (rooms theirs more : List (Option ℕ)) (entries listed all : List ℕ)
    → length numbers ≤ 16384 → HasAll entries all
    → ((n : ℕ) → Contains listed n → shares numbers others theirs (n % 16384) ≡ true → Contains all n)
    → ((i room : ℕ) → get_or more i None ≡ Some room → (get_or rooms i None ≡ Some room) ⊎ (shares numbers others theirs i ≡ true) × (get_or theirs i None ≡ Some room))
    → IsTold sectors s tree numbers rooms entries → IsTold sectors s tree' others theirs listed → IsTold sectors s tree numbers more all
taken_over sectors s tree tree' numbers others rooms theirs more entries listed all few kept took taken t o = record {
  placed = t.placed;
  somewhere = λ i room is. elim (taken i room is) [
    | inl mine ↦ t.somewhere i room mine
    | inr both ↦ (shares_true numbers others theirs i both.0).0
  ];
  known = λ i room is. elim (taken i room is) [
    | inl mine ↦ knows_more entries all i room (s (slice_index numbers i)) kept (t.known i room mine)
    | inr both ↦
        let at = shares_true numbers others theirs i both.0 in
        let small : i < 16384 = let w = within numbers i at.0 in omega arith in
        let k = subst (λ (n : ℕ). Knows listed i room (s n)) (sym at.1) (o.known i room both.1) in
        record {
          spelled = k.spelled;
          left = k.left;
          listed = λ name none. k.listed name (λ has. none (took (entry_for name i) has
              (subst (λ (j : ℕ). shares numbers others theirs j ≡ true) (sym (block_of_entry (print_of name) i small)) both.0)));
        }
  ];
}

pub same_told : (sectors : ℕ) (s : Store) (tree tree' : BlockTree) (numbers numbers' : List ℕ) (rooms rooms' : List (Option ℕ)) (entries entries' : List ℕ)
    → tree' ≡ tree → numbers' ≡ numbers → rooms' ≡ rooms → entries' ≡ entries → IsTold sectors s tree numbers rooms entries → IsTold sectors s tree' numbers' rooms' entries'
same_told sectors s tree tree' numbers numbers' rooms rooms' entries entries' a b c d t =
    subst (λ (x : BlockTree). IsTold sectors s x numbers' rooms' entries') (sym a)
    (subst (λ (x : List ℕ). IsTold sectors s tree x rooms' entries') (sym b)
    (subst (λ (x : List (Option ℕ)). IsTold sectors s tree numbers x entries') (sym c)
    (subst (λ (x : List ℕ). IsTold sectors s tree numbers rooms x) (sym d) t)))
