-- What stays of a list of snapshots with one more, or without one.
use Rattle.std.proofs.Common.{◌≡◌, ℕ, zero, suc, ◌<◌, ◌≤◌, Bool, true, false, cond, not, ◌||◌, ◌&&◌, List, [], ◌∷◌, length, get_or, refl, sym, ap, ap₂, ◌∙◌, arith}
use Rattle.std.specs.Prelude.{nat_le, nat_lt, remove}
use Rattle.std.specs.List.{AllByRecursion, list_all, list_any, filter}
use Rattle.std.specs.Str.{bytes_eq}
use Rattle.std.specs.Cmp.Derive.{both_true}
use Rattle.std.proofs.lemmas.Bool.{and_parts, cond_both, lt-ltb, ltb-true, not-true, or_parts}
use Rattle.sn_layout.specs.declared.snapshot.Snapshot.{Snapshot}
use Rattle.sn_layout.specs.Snapshot.{are_distinct, are_rising, with_snapshot}
use Rattle.sn_snap.specs.Catalogue.{others_than}
use Rattle.sn_snap.proofs.NameLemmas.{has_name, itself, other_way, same_bytes}

-- ---- one snapshot more

or_swap : (a b c : Bool) → (a || (b || c)) ≡ (b || (a || c))
or_swap true true c = refl
or_swap true false c = refl
or_swap false b c = refl

and_swap : (a b c : Bool) → (a && (b && c)) ≡ (b && (a && c))
and_swap true b c = refl
and_swap false true c = refl
and_swap false false c = refl

pub list_any-with : (p : Snapshot → Bool) (s : Snapshot) (snapshots : List Snapshot) → list_any p (with_snapshot s snapshots) ≡ (p s || list_any p snapshots)
list_any-with p s [] = refl
list_any-with p s (first ∷ more) =
    cond_both (nat_le first.bit s.bit) (first ∷ with_snapshot s more) (s ∷ first ∷ more) (λ l. list_any p l ≡ (p s || (p first || list_any p more)))
    (λ _. ap (λ b. p first || b) (list_any-with p s more) ∙ or_swap (p first) (p s) (list_any p more))
    (λ _. refl)

pub list_all-with : (p : Snapshot → Bool) (s : Snapshot) (snapshots : List Snapshot) → list_all p (with_snapshot s snapshots) ≡ (p s && list_all p snapshots)
list_all-with p s [] = refl
list_all-with p s (first ∷ more) =
    cond_both (nat_le first.bit s.bit) (first ∷ with_snapshot s more) (s ∷ first ∷ more) (λ l. list_all p l ≡ (p s && (p first && list_all p more)))
    (λ _. ap (λ b. p first && b) (list_all-with p s more) ∙ and_swap (p first) (p s) (list_all p more))
    (λ _. refl)

pub length-with : (s : Snapshot) (snapshots : List Snapshot) → length (with_snapshot s snapshots) ≡ suc (length snapshots)
length-with s [] = refl
length-with s (first ∷ more) =
    cond_both (nat_le first.bit s.bit) (first ∷ with_snapshot s more) (s ∷ first ∷ more) (λ l. length l ≡ suc (suc (length more)))
    (λ _. ap suc (length-with s more))
    (λ _. refl)

pub each_with : (P : Snapshot → Type 0) (s : Snapshot) (snapshots : List Snapshot) → P s → AllByRecursion P snapshots → AllByRecursion P (with_snapshot s snapshots)
each_with P s [] one all = (one, tt)
each_with P s (first ∷ more) one all =
    cond_both (nat_le first.bit s.bit) (first ∷ with_snapshot s more) (s ∷ first ∷ more) (AllByRecursion P)
    (λ _. (all.0, each_with P s more one all.1))
    (λ _. (one, all))

pub distinct_with : (s : Snapshot) (snapshots : List Snapshot) → are_distinct snapshots ≡ true → has_name s.name snapshots ≡ false → are_distinct (with_snapshot s snapshots) ≡ true
distinct_with s [] distinct new = refl
distinct_with s (first ∷ more) distinct new =
    let parts = and_parts (not (has_name first.name more)) (are_distinct more) distinct in
    let apart = or_parts (bytes_eq s.name first.name) (has_name s.name more) new in
    let still : has_name first.name (with_snapshot s more) ≡ false =
    list_any-with (λ other. bytes_eq first.name other.name) s more
    ∙ ap (λ b. b || has_name first.name more) (other_way first.name s.name ∙ apart.0)
    ∙ not-true (has_name first.name more) parts.0 in
    cond_both (nat_le first.bit s.bit) (first ∷ with_snapshot s more) (s ∷ first ∷ more) (λ l. are_distinct l ≡ true)
    (λ _. both_true {s = not (has_name first.name (with_snapshot s more))} {t = are_distinct (with_snapshot s more)} (ap not still) (distinct_with s more parts.1 apart.1))
    (λ _. both_true {s = not (has_name s.name (first ∷ more))} {t = are_distinct (first ∷ more)} (ap not new) distinct)

-- ---- one less

-- those of another name are all, where none has it
pub all_others : (name : List ℕ) (snapshots : List Snapshot) → has_name name snapshots ≡ false → others_than name snapshots ≡ snapshots
all_others name [] new = refl
all_others name (s ∷ more) new =
    let apart = or_parts (bytes_eq name s.name) (has_name name more) new in
    ap (λ b. cond (not b) (s ∷ others_than name more) (others_than name more)) apart.0 ∙ ap (λ l. s ∷ l) (all_others name more apart.1)

-- the first that has the name is the only one
pub remove-named : (name : List ℕ) (snapshots : List Snapshot) (i : ℕ) (d : Snapshot) → are_distinct snapshots ≡ true → i < length snapshots
    → bytes_eq name (get_or snapshots i d).name ≡ true → ((k : ℕ) → k < i → bytes_eq name (get_or snapshots k d).name ≡ false) → remove snapshots i ≡ others_than name snapshots
remove-named name [] i d distinct within hit before = absurd (omega arith)
remove-named name (s ∷ more) zero d distinct within hit before =
    let parts = and_parts (not (has_name s.name more)) (are_distinct more) distinct in
    let alone : has_name name more ≡ false = ap (λ n. has_name n more) (same_bytes name s.name hit) ∙ not-true (has_name s.name more) parts.0 in
    sym (ap (λ b. cond (not b) (s ∷ others_than name more) (others_than name more)) hit ∙ all_others name more alone)
remove-named name (s ∷ more) (suc i) d distinct within hit before =
    let parts = and_parts (not (has_name s.name more)) (are_distinct more) distinct in
    ap (λ l. s ∷ l) (remove-named name more i d parts.1 (omega arith) hit (λ k lt. before (suc k) (omega arith)))
    ∙ sym (ap (λ b. cond (not b) (s ∷ others_than name more) (others_than name more)) (before 0 (omega arith)))

pub put_and_taken : (s : Snapshot) (snapshots : List Snapshot) → has_name s.name snapshots ≡ false → others_than s.name (with_snapshot s snapshots) ≡ snapshots
put_and_taken s [] new = ap (λ b. cond (not b) (s ∷ []) []) (itself s.name)
put_and_taken s (first ∷ more) new =
    let apart = or_parts (bytes_eq s.name first.name) (has_name s.name more) new in
    cond_both (nat_le first.bit s.bit) (first ∷ with_snapshot s more) (s ∷ first ∷ more) (λ l. others_than s.name l ≡ first ∷ more)
    (λ _. ap (λ b. cond (not b) (first ∷ others_than s.name (with_snapshot s more)) (others_than s.name (with_snapshot s more))) apart.0
    ∙ ap (λ l. first ∷ l) (put_and_taken s more apart.1))
    (λ _. ap (λ b. cond (not b) (s ∷ others_than s.name (first ∷ more)) (others_than s.name (first ∷ more))) (itself s.name) ∙ all_others s.name (first ∷ more) new)

module _ (p : Snapshot → Bool) where
  pub list_any-filter : (q : Snapshot → Bool) (snapshots : List Snapshot) → list_any q snapshots ≡ false → list_any q (filter p snapshots) ≡ false
  list_any-filter q [] e = refl
  list_any-filter q (s ∷ more) e =
      let parts = or_parts (q s) (list_any q more) e in
      let rest = list_any-filter q more parts.1 in
      cond_both (p s) (s ∷ filter p more) (filter p more) (λ l. list_any q l ≡ false) (λ _. ap₂ (λ a b. a || b) parts.0 rest) (λ _. rest)

  pub list_all-filter : (q : Snapshot → Bool) (snapshots : List Snapshot) → list_all q snapshots ≡ true → list_all q (filter p snapshots) ≡ true
  list_all-filter q [] e = refl
  list_all-filter q (s ∷ more) e =
      let parts = and_parts (q s) (list_all q more) e in
      let rest = list_all-filter q more parts.1 in
      cond_both (p s) (s ∷ filter p more) (filter p more) (λ l. list_all q l ≡ true) (λ _. both_true {s = q s} {t = list_all q (filter p more)} parts.0 rest) (λ _. rest)

  pub each_filter : (P : Snapshot → Type 0) (snapshots : List Snapshot) → AllByRecursion P snapshots → AllByRecursion P (filter p snapshots)
  each_filter P [] all = tt
  each_filter P (s ∷ more) all =
      let rest = each_filter P more all.1 in
      cond_both (p s) (s ∷ filter p more) (filter p more) (AllByRecursion P) (λ _. (all.0, rest)) (λ _. rest)

  pub length-filter : (snapshots : List Snapshot) → length (filter p snapshots) ≤ length snapshots
  length-filter [] = omega arith
  length-filter (s ∷ more) =
      let rest = length-filter more in
      cond_both (p s) (s ∷ filter p more) (filter p more) (λ l. length l ≤ suc (length more)) (λ _. omega (arith, rest)) (λ _. omega (arith, rest))

  pub distinct_filter : (snapshots : List Snapshot) → are_distinct snapshots ≡ true → are_distinct (filter p snapshots) ≡ true
  distinct_filter [] distinct = refl
  distinct_filter (s ∷ more) distinct =
      let parts = and_parts (not (has_name s.name more)) (are_distinct more) distinct in
      let rest = distinct_filter more parts.1 in
      let alone = list_any-filter (λ other. bytes_eq s.name other.name) more (not-true (has_name s.name more) parts.0) in
      cond_both (p s) (s ∷ filter p more) (filter p more) (λ l. are_distinct l ≡ true)
      (λ _. both_true {s = not (has_name s.name (filter p more))} {t = are_distinct (filter p more)} (ap not alone) rest)
      (λ _. rest)

  lower : (a b : ℕ) (snapshots : List Snapshot) → a ≤ b → are_rising b snapshots ≡ true → are_rising a snapshots ≡ true
  lower a b [] le rising = refl
  lower a b (s ∷ more) le rising =
      let parts = and_parts (nat_lt b s.bit) (are_rising s.bit more) rising in
      both_true {s = nat_lt a s.bit} {t = are_rising s.bit more} (lt-ltb a s.bit (omega (arith, ltb-true b s.bit parts.0))) parts.1

  pub rising_filter : (before : ℕ) (snapshots : List Snapshot) → are_rising before snapshots ≡ true → are_rising before (filter p snapshots) ≡ true
  rising_filter before [] rising = refl
  rising_filter before (s ∷ more) rising =
      let parts = and_parts (nat_lt before s.bit) (are_rising s.bit more) rising in
      let rest = rising_filter s.bit more parts.1 in
      let less : before < s.bit = ltb-true before s.bit parts.0 in
      cond_both (p s) (s ∷ filter p more) (filter p more) (λ l. are_rising before l ≡ true)
      (λ _. both_true {s = nat_lt before s.bit} {t = are_rising s.bit (filter p more)} parts.0 rest)
      (λ _. lower before s.bit (filter p more) (omega (arith, less)) rest)
