-- The times that one mount left, with which the next begins.
use Rattle.std.proofs.Common.{◌≡◌, ◌≢◌, ◌<◌, ◌≤◌, ◌+◌, ◌/◌, ◌%◌, ℕ, ◌==◌, Bool, true, false, true≢false, cond, ◌||◌, List, [], ◌∷◌, length, map, Option, None, Some, is_some, refl, sym, ap, subst, ◌∙◌, arith}
use Rattle.std.specs.Cmp.{nat_cmp_total, eq_by_cmp_equiv, unsigned_ties}
use Rattle.std.specs.Cmp.Lexicographic.{nat_list_cmp_total, slice_cmp}
use Rattle.std.specs.FinMap as fin
use Rattle.std.specs.List.{list_any}
use Rattle.std.specs.Option.{option_and_then, option_eq, unwrap_or}
use Rattle.std.specs.Ordering.{nat_cmp, eq_by_cmp}
use Rattle.std.proofs.lemmas.Bool.{le-leb}
use Rattle.std.proofs.lemmas.Map.Lookups.{exact_bytes, exact_unsigned}
use Rattle.std.proofs.lemmas.Map.Views.{tells_apart}
use Rattle.sn_fuse.specs.declared.operation.Time.{Time}
use Rattle.sn_times.specs.Dates.{Dates, Tree, all_forgotten, bare, is_met, met, moved, stamps_at, stamps_in, taken_if, tree_of, with_name, with_tree}
use Rattle.sn_times.proofs.DatesLemmas.{stamps-with_tree}
use Rattle.sn_times_file.specs.Keeping.{section_of, with_live, with_section, with_sections}
use Rattle.sn_times_file.specs.Kept.{Named}
use Rattle.sn_times_file.specs.Laws.{LiveTimesLast, SnapshotTimesLast, taken}

-- ---- keys

abbrev is_name : List ℕ → List ℕ → Bool
is_name = eq_by_cmp (slice_cmp nat_cmp)

apart : (q k : ℕ) → q ≢ k → eq_by_cmp nat_cmp q k ≡ false
apart q k differ = told (eq_by_cmp nat_cmp q k) refl
  where
    told : (b : Bool) → eq_by_cmp nat_cmp q k ≡ b → b ≡ false
    told true e = absurd (differ (tells_apart exact_unsigned q k e))
    told false e = refl

-- what is at a home once one got a tree
tree_there : (d : Dates) (home : ℕ) (tree : Tree) → fin.get (with_tree d home (Some tree)).trees home ≡ Some tree
tree_there d home tree = fin.get-insert nat_cmp_total d.trees home tree home ∙ ap (λ (b : Bool). cond b (Some tree) (fin.get d.trees home)) ((eq_by_cmp_equiv nat_cmp_total).refl home)

tree_elsewhere : (d : Dates) (home : ℕ) (tree : Tree) (at : ℕ) → at ≢ home → fin.get (with_tree d home (Some tree)).trees at ≡ fin.get d.trees at
tree_elsewhere d home tree at differ = fin.get-insert nat_cmp_total d.trees home tree at ∙ ap (λ (b : Bool). cond b (Some tree) (fin.get d.trees at)) (apart at home differ)

home_of : (d : Dates) (other : List ℕ) (home : ℕ) (name : List ℕ) → fin.get (with_name d other home).homes name ≡ cond (is_name name other) (Some home) (fin.get d.homes name)
home_of d other home name = fin.get-insert nat_list_cmp_total d.homes other home name

-- ---- sections, one after the other

-- the times of a snapshot wait at one of these homes
record Waits (old : Dates) (name : List ℕ) (low high : ℕ) (d : Dates) : Type 0 where
  at : ℕ
  from : low ≤ at
  below : at < high
  home : fin.get d.homes name ≡ Some at
  tree : fin.get d.trees at ≡ Some (section_of old name).tree

module _ (old : Dates) (name : List ℕ) (low : ℕ) (some : 0 < low) where
  -- the section of its name
  waits_first : (high : ℕ) (d : Dates) (other : List ℕ) → low ≤ high → is_name name other ≡ true → Waits old name low (high + 1) (with_tree (with_name d other high) high (Some (section_of old other).tree))
  waits_first high d other from e = record {
    at = high;
    from = from;
    below = omega arith;
    home = home_of d other high name ∙ ap (λ (b : Bool). cond b (Some high) (fin.get d.homes name)) e;
    tree = tree_there (with_name d other high) high (section_of old other).tree ∙ ap (λ (n : List ℕ). Some (section_of old n).tree) (sym (tells_apart exact_bytes name other e));
  }

  -- that of another one
  waits_on : (high : ℕ) (d : Dates) (other : List ℕ) → is_name name other ≡ false → Waits old name low high d → Waits old name low (high + 1) (with_tree (with_name d other high) high (Some (section_of old other).tree))
  waits_on high d other e w = record {
    at = w.at;
    from = w.from;
    below = omega (arith, w.below);
    home = home_of d other high name ∙ ap (λ (b : Bool). cond b (Some high) (fin.get d.homes name)) e ∙ w.home;
    tree = tree_elsewhere (with_name d other high) high (section_of old other).tree w.at (λ is. omega (arith, is, w.below)) ∙ w.tree;
  }

  -- that of the live tree
  waits_live : (high : ℕ) (d : Dates) (tree : Tree) (live : Option Tree) → Waits old name low high d → Waits old name low (high + 1) (with_live d tree live)
  waits_live high d tree None w = record {
    at = w.at;
    from = w.from;
    below = omega (arith, w.below);
    home = w.home;
    tree = tree_elsewhere d 0 tree w.at (λ is. omega (arith, is, some, w.from)) ∙ w.tree;
  }
  waits_live high d tree (Some live) w = record { at = w.at; from = w.from; below = omega (arith, w.below); home = w.home; tree = w.tree }

  one_more : (high : ℕ) (d : Dates) (other : List ℕ) → Waits old name low high d → Waits old name low (high + 1) (with_section d high (section_of old other))
  one_more high d other w = told (length other == 0)
    where
      named : (b : Bool) → is_name name other ≡ b → Waits old name low (high + 1) (with_tree (with_name d other high) high (Some (section_of old other).tree))
      named true e = waits_first high d other (omega (arith, w.from, w.below)) e
      named false e = waits_on high d other e w

      told : (b : Bool) → Waits old name low (high + 1) (cond b (with_live d (section_of old other).tree (fin.get d.trees 0)) (with_tree (with_name d other high) high (Some (section_of old other).tree)))
      told true = waits_live high d (section_of old other).tree (fin.get d.trees 0) w
      told false = named (is_name name other) refl

  all_more : (names : List (List ℕ)) (high : ℕ) (d : Dates) → Waits old name low high d → Waits old name low (high + length names) (with_sections (map (section_of old) names) high d)
  all_more [] high d w = record { at = w.at; from = w.from; below = omega (arith, w.below); home = w.home; tree = w.tree }
  all_more (other ∷ names) high d w =
      let more = all_more names (high + 1) (with_section d high (section_of old other)) (one_more high d other w) in
      record { at = more.at; from = more.from; below = omega (arith, more.below); home = more.home; tree = more.tree }

  -- where it has a section among these
  waits : (names : List (List ℕ)) (high : ℕ) (d : Dates) → low ≤ high → (length name == 0) ≡ false → list_any (is_name name) names ≡ true → Waits old name low (high + length names) (with_sections (map (section_of old) names) high d)
  waits [] high d from long e = absurd (true≢false (sym e))
  waits (other ∷ names) high d from long e = told (is_name name other) refl (waits names (high + 1) next (omega (arith, from)) long)
    where
      next : Dates
      next = with_section d high (section_of old other)

      Later : Type 0
      Later = Waits old name low ((high + 1) + length names) (with_sections (map (section_of old) names) (high + 1) next)

      further : Later → Waits old name low (high + length (other ∷ names)) (with_sections (map (section_of old) names) (high + 1) next)
      further w = record { at = w.at; from = w.from; below = omega (arith, w.below); home = w.home; tree = w.tree }

      told : (b : Bool) → is_name name other ≡ b → (list_any (is_name name) names ≡ true → Later) → Waits old name low (high + length (other ∷ names)) (with_sections (map (section_of old) names) (high + 1) next)
      told true t later =
          let longer : (length other == 0) ≡ false = subst (λ (n : List ℕ). (length n == 0) ≡ false) (tells_apart exact_bytes name other t) long in
          further (all_more names (high + 1) next
          (subst (λ (b : Bool). Waits old name low (high + 1) (cond b (with_live d (section_of old other).tree (fin.get d.trees 0)) (with_tree (with_name d other high) high (Some (section_of old other).tree)))) (sym longer)
          (waits_first high d other from t)))
      told false f later = further (later (sym (ap (λ (b : Bool). b || list_any (is_name name) names) f) ∙ e))

-- ---- the live tree

live_more : (high : ℕ) (d : Dates) (section : Named) (tree : Tree) → 0 < high → fin.get d.trees 0 ≡ Some tree → fin.get (with_section d high section).trees 0 ≡ Some tree
live_more high d section tree some is = told (length section.name == 0)
  where
    stays : (live : Option Tree) → live ≡ Some tree → fin.get (with_live d section.tree live).trees 0 ≡ Some tree
    stays None e = absurd (let never : (let none : Option Tree = None in none) ≡ Some tree = e in cc)
    stays (Some live) e = is

    told : (b : Bool) → fin.get (cond b (with_live d section.tree (fin.get d.trees 0)) (with_tree (with_name d section.name high) high (Some section.tree))).trees 0 ≡ Some tree
    told true = stays (fin.get d.trees 0) is
    told false = tree_elsewhere (with_name d section.name high) high section.tree 0 (λ e. omega (arith, e, some)) ∙ is

live_stays : (sections : List Named) (high : ℕ) (d : Dates) (tree : Tree) → 0 < high → fin.get d.trees 0 ≡ Some tree → fin.get (with_sections sections high d).trees 0 ≡ Some tree
live_stays [] high d tree some is = is
live_stays (section ∷ sections) high d tree some is = live_stays sections (high + 1) (with_section d high section) tree (omega (arith, some)) (live_more high d section tree some is)

-- the first section
begins : (now : Time) (tree : Tree) → with_live (all_forgotten now) tree (fin.get (all_forgotten now).trees 0) ≡ with_tree (all_forgotten now) 0 (Some tree)
begins now tree = ap (with_live (all_forgotten now) tree) (fin.get-empty nat_cmp 0)

begun_so : (root : List ℕ) (old : Dates) (now : Time)
    → taken root old now ≡ with_sections (map (section_of old) (fin.keys old.homes)) 281474976710657 (with_tree (all_forgotten now) 0 (Some (tree_of old 0)))
begun_so root old now = ap (with_sections (map (section_of old) (fin.keys old.homes)) 281474976710657) (begins now (tree_of old 0))

-- ---- the laws

pub live_times_last : LiveTimesLast
live_times_last root old now number within =
    let live : number / 65536 ≡ 0 = omega (arith, within) in
    let kept = live_stays (map (section_of old) (fin.keys old.homes)) 281474976710657 (with_tree (all_forgotten now) 0 (Some (tree_of old 0))) (tree_of old 0) (omega arith) (tree_there (all_forgotten now) 0 (tree_of old 0)) in
    let tree : fin.get (taken root old now).trees 0 ≡ Some (tree_of old 0) = ap (λ (d : Dates). fin.get d.trees 0) (begun_so root old now) ∙ kept in
    ap (λ (home : ℕ). stamps_in (tree_of (taken root old now) home) (number % 65536)) live
    ∙ ap (λ (o : Option Tree). stamps_in (unwrap_or o (bare (taken root old now).base)) (number % 65536)) tree
    ∙ ap (λ (home : ℕ). stamps_in (tree_of old home) (number % 65536)) (sym live)

waits_there : (root : List ℕ) (old : Dates) (now : Time) (name : List ℕ) (home : ℕ) → length name ≢ 0 → fin.get old.homes name ≡ Some home
    → Waits old name 281474976710656 (281474976710657 + length (fin.keys old.homes)) (taken root old now)
waits_there root old now name home long is =
    let known : list_any (is_name name) (fin.keys old.homes) ≡ true = sym (fin.contains_key-keys old.homes name) ∙ ap is_some is in
    let longer : (length name == 0) ≡ false = unsigned_ties (length name) 0 ∙ apart (length name) 0 long in
    subst (λ (d : Dates). Waits old name 281474976710656 (281474976710657 + length (fin.keys old.homes)) d) (sym (begun_so root old now))
    (waits old name 281474976710656 (omega arith) (fin.keys old.homes) 281474976710657 (with_tree (all_forgotten now) 0 (Some (tree_of old 0))) (omega arith) longer known)

-- one that waits is met
met_so : (d : Dates) (name : List ℕ) (at new_home : ℕ) → fin.get d.homes name ≡ Some at → 281474976710656 ≤ at → new_home < 281474976710656 → met d new_home name ≡ moved (with_name d name new_home) at new_home
met_so d name at new_home is from below =
    let differ : (at == new_home) ≡ false = unsigned_ties at new_home ∙ apart at new_home (λ e. omega (arith, e, from, below)) in
    let unmet : is_met d new_home name ≡ false = ap (λ (o : Option ℕ). option_eq ◌==◌ o (Some new_home)) is ∙ differ in
    ap (λ (b : Bool). cond b d (taken_if (with_name d name new_home) (fin.get d.homes name) new_home)) unmet
    ∙ ap (λ (o : Option ℕ). taken_if (with_name d name new_home) o new_home) is
    ∙ ap (λ (b : Bool). cond b (moved (with_name d name new_home) at new_home) (with_name d name new_home)) (le-leb 281474976710656 at from)

pub snapshot_times_last : SnapshotTimesLast
snapshot_times_last root old now name home new_home long is below number new_number there here same =
    let d = taken root old now in
    let w = waits_there root old now name home long is in
    let named = with_name d name new_home in
    let at_home : (new_number / 65536 == new_home) ≡ true = unsigned_ties (new_number / 65536) new_home ∙ ap (eq_by_cmp nat_cmp (new_number / 65536)) (sym here) ∙ (eq_by_cmp_equiv nat_cmp_total).refl (new_number / 65536) in
    ap (λ (x : Dates). stamps_at x new_number) (met_so d name w.at new_home w.home w.from below)
    ∙ stamps-with_tree (with_tree named w.at None) new_home (fin.get named.trees w.at) new_number
    ∙ ap (λ (b : Bool). cond b (stamps_in (unwrap_or (fin.get named.trees w.at) (bare named.base)) (new_number % 65536)) (stamps_at (with_tree named w.at None) new_number)) at_home
    ∙ ap (λ (o : Option Tree). stamps_in (unwrap_or o (bare named.base)) (new_number % 65536)) w.tree
    ∙ ap (λ (o : Option ℕ). stamps_in (unwrap_or (option_and_then (fin.get old.trees) o) (bare old.base)) (new_number % 65536)) is
    ∙ ap (λ (h : ℕ). stamps_in (tree_of old h) (new_number % 65536)) (sym there)
    ∙ ap (stamps_in (tree_of old (number / 65536))) same
