-- A list of snapshots as a map from their names.
use Rattle.std.proofs.Common.{◌≡◌, ◌≢◌, ℕ, zero, suc, ◌<◌, Bool, true, false, cond, not, ◌||◌, ◌&&◌, List, [], ◌∷◌, map, length, get_or, Some, None, Option, refl, sym, ap, ap₂, ◌∙◌, arith, true≢false}
use Rattle.std.specs.Prelude.{nat_le, is_some}
use Rattle.std.specs.List.{list_any}
use Rattle.std.specs.Cmp.{IsTotalOrder, eq_by_cmp_equiv}
use Rattle.std.specs.Cmp.Lexicographic.{slice_cmp, nat_list_cmp_total, texts_ties}
use Rattle.std.specs.Ordering.{nat_cmp, eq_by_cmp}
use Rattle.std.specs.declared.cmp.Ordering.{Ordering}
use Rattle.std.specs.FinMap as fin
use Rattle.std.specs.FinMap.{IsAntisymmetric, nat_cmp-IsAntisymmetric, slice_cmp-IsAntisymmetric}
use Rattle.std.specs.FinMap.Entries.{find, find-where_key, where_key}
use Rattle.std.specs.Str.{bytes_eq}
use Rattle.std.proofs.lemmas.Bool.{cond_both, or_parts}
use Rattle.std.proofs.lemmas.Slice.Eq.{bytes_eq-Decides}
use Rattle.sn_layout.specs.declared.snapshot.Snapshot.{Snapshot}
use Rattle.sn_layout.specs.Snapshot.{with_snapshot}
use Rattle.sn_snap.specs.Catalogue.{by_name, others_than}

-- the order of names
abbrev pub by_bytes : List ℕ → List ℕ → Ordering
by_bytes = slice_cmp nat_cmp

pub names_total : IsTotalOrder by_bytes
names_total = nat_list_cmp_total

pub same_names : IsAntisymmetric by_bytes
same_names = slice_cmp-IsAntisymmetric nat_cmp-IsAntisymmetric

pub same_bytes : (a b : List ℕ) → bytes_eq a b ≡ true → a ≡ b
same_bytes a b e = (bytes_eq-Decides a b).0 e

pub itself : (a : List ℕ) → bytes_eq a a ≡ true
itself a = texts_ties a a ∙ (eq_by_cmp_equiv names_total).refl a

pub other_way : (a b : List ℕ) → bytes_eq a b ≡ bytes_eq b a
other_way a b = texts_ties a b ∙ (eq_by_cmp_equiv names_total).symm a b ∙ sym (texts_ties b a)

pub unlike : (a b : List ℕ) → a ≢ b → eq_by_cmp by_bytes a b ≡ false
unlike a b apart = told (eq_by_cmp by_bytes a b) refl
  where
    told : (x : Bool) → eq_by_cmp by_bytes a b ≡ x → x ≡ false
    told true e = absurd (apart (same_bytes a b (texts_ties a b ∙ e)))
    told false e = refl

-- one of them has the name
abbrev pub has_name : List ℕ → List Snapshot → Bool
has_name name snapshots = list_any (λ (other : Snapshot). bytes_eq name other.name) snapshots

module _ {X : Type 0} (f : Snapshot → X) where
  abbrev pub told_by : List Snapshot → List (List ℕ × X)
  told_by snapshots = map (λ s. (s.name, f s)) snapshots

  pub get_is : (snapshots : List Snapshot) (q : List ℕ) → fin.get (by_name f snapshots) q ≡ find by_bytes q (told_by snapshots)
  get_is snapshots q = fin.get-from_entries names_total (told_by snapshots) q

  joined : (b : Bool) (x : X) (o : Option X) → (b || is_some o) ≡ is_some (cond b (Some x) o)
  joined true x o = refl
  joined false x o = refl

  pub named : (snapshots : List Snapshot) (q : List ℕ) → has_name q snapshots ≡ is_some (find by_bytes q (told_by snapshots))
  named [] q = refl
  named (s ∷ more) q = ap₂ (λ a b. a || b) (texts_ties q s.name) (named more q) ∙ joined (eq_by_cmp by_bytes q s.name) (f s) (find by_bytes q (told_by more))

  -- a name without an entry is no snapshot's
  pub absent : (snapshots : List Snapshot) (q : List ℕ) → fin.get (by_name f snapshots) q ≡ None → has_name q snapshots ≡ false
  absent snapshots q e = named snapshots q ∙ ap is_some (sym (get_is snapshots q) ∙ e)

  none_of : (o : Option X) → is_some o ≡ false → o ≡ None
  none_of None e = refl
  none_of (Some x) e = absurd (true≢false e)

  pub unfound : (snapshots : List Snapshot) (q : List ℕ) → has_name q snapshots ≡ false → find by_bytes q (told_by snapshots) ≡ None
  unfound snapshots q e = none_of (find by_bytes q (told_by snapshots)) (sym (named snapshots q) ∙ e)

  -- the first that has the name
  pub found_at : (snapshots : List Snapshot) (q : List ℕ) (i : ℕ) (d : Snapshot) → i < length snapshots → bytes_eq q (get_or snapshots i d).name ≡ true
      → ((k : ℕ) → k < i → bytes_eq q (get_or snapshots k d).name ≡ false) → find by_bytes q (told_by snapshots) ≡ Some (f (get_or snapshots i d))
  found_at [] q i d within hit before = absurd (omega arith)
  found_at (s ∷ more) q zero d within hit before = ap (λ b. cond b (Some (f s)) (find by_bytes q (told_by more))) (sym (texts_ties q s.name) ∙ hit)
  found_at (s ∷ more) q (suc i) d within hit before =
      ap (λ b. cond b (Some (f s)) (find by_bytes q (told_by more))) (sym (texts_ties q s.name) ∙ before 0 (omega arith))
      ∙ found_at more q i d (omega arith) hit (λ k lt. before (suc k) (omega arith))

  -- ---- one snapshot more

  swapped : (a b : Bool) (x y z : Option X) → (a && b) ≡ false → cond a x (cond b y z) ≡ cond b y (cond a x z)
  swapped true true x y z apart = absurd (true≢false apart)
  swapped true false x y z apart = refl
  swapped false true x y z apart = refl
  swapped false false x y z apart = refl

  not_both : (q a b : List ℕ) → bytes_eq b a ≡ false → (eq_by_cmp by_bytes q a && eq_by_cmp by_bytes q b) ≡ false
  not_both q a b apart = told (eq_by_cmp by_bytes q a) refl (eq_by_cmp by_bytes q b) refl
    where
      told : (x : Bool) → eq_by_cmp by_bytes q a ≡ x → (y : Bool) → eq_by_cmp by_bytes q b ≡ y → (x && y) ≡ false
      told true e true g = absurd (true≢false (sym (itself a) ∙ ap (λ n. bytes_eq n a) (sym (same_bytes q a (texts_ties q a ∙ e)) ∙ same_bytes q b (texts_ties q b ∙ g)) ∙ apart))
      told true e false g = refl
      told false e y g = refl

  pub found_with : (s : Snapshot) (snapshots : List Snapshot) (q : List ℕ) → has_name s.name snapshots ≡ false
      → find by_bytes q (told_by (with_snapshot s snapshots)) ≡ cond (eq_by_cmp by_bytes q s.name) (Some (f s)) (find by_bytes q (told_by snapshots))
  found_with s [] q new = refl
  found_with s (first ∷ more) q new =
      let apart = or_parts (bytes_eq s.name first.name) (has_name s.name more) new in
      cond_both (nat_le first.bit s.bit) (first ∷ with_snapshot s more) (s ∷ first ∷ more) (λ l. find by_bytes q (told_by l) ≡ cond (eq_by_cmp by_bytes q s.name) (Some (f s)) (find by_bytes q (told_by (first ∷ more))))
      (λ _. ap (cond (eq_by_cmp by_bytes q first.name) (Some (f first))) (found_with s more q apart.1)
      ∙ swapped (eq_by_cmp by_bytes q first.name) (eq_by_cmp by_bytes q s.name) (Some (f first)) (Some (f s)) (find by_bytes q (told_by more)) (not_both q first.name s.name apart.0))
      (λ _. refl)

  -- to put a snapshot there whose name is new is to insert what it says
  pub by_name-with : (s : Snapshot) (snapshots : List Snapshot) → has_name s.name snapshots ≡ false
      → by_name f (with_snapshot s snapshots) ≡ fin.insert (by_name f snapshots) s.name (f s)
  by_name-with s snapshots new = fin.same_map names_total same_names _ _ (λ q.
      get_is (with_snapshot s snapshots) q
      ∙ found_with s snapshots q new
      ∙ ap (cond (eq_by_cmp by_bytes q s.name) (Some (f s))) (sym (get_is snapshots q))
      ∙ sym (fin.get-insert names_total (by_name f snapshots) s.name (f s) q))

  -- ---- one less

  told_cond : (b : Bool) (s : Snapshot) (more : List Snapshot) (es : List (List ℕ × X)) → told_by more ≡ es → told_by (cond b (s ∷ more) more) ≡ cond b ((s.name, f s) ∷ es) es
  told_cond true s more es e = ap (λ l. (s.name, f s) ∷ l) e
  told_cond false s more es e = e

  told-others : (name : List ℕ) (snapshots : List Snapshot) → told_by (others_than name snapshots) ≡ where_key by_bytes (λ x. not (eq_by_cmp by_bytes name x)) (told_by snapshots)
  told-others name [] = refl
  told-others name (s ∷ more) =
      ap (λ b. told_by (cond (not b) (s ∷ others_than name more) (others_than name more))) (texts_ties name s.name)
      ∙ told_cond (not (eq_by_cmp by_bytes name s.name)) s (others_than name more) _ (told-others name more)

  turned : (a b : Bool) (o : Option X) → a ≡ b → cond (not a) o None ≡ cond b None o
  turned true b o e = ap (λ c. cond c None o) e
  turned false b o e = ap (λ c. cond c None o) e

  -- to take a snapshot away is to remove its name
  pub by_name-others : (name : List ℕ) (snapshots : List Snapshot) → by_name f (others_than name snapshots) ≡ fin.remove (by_name f snapshots) name
  by_name-others name snapshots = fin.same_map names_total same_names _ _ (λ q.
      get_is (others_than name snapshots) q
      ∙ ap (find by_bytes q) (told-others name snapshots)
      ∙ find-where_key by_bytes (λ x. not (eq_by_cmp by_bytes name x)) q (λ x tied. ap (λ y. not (eq_by_cmp by_bytes name y)) (sym (same_names q x tied))) (told_by snapshots)
      ∙ turned (eq_by_cmp by_bytes name q) (eq_by_cmp by_bytes q name) (find by_bytes q (told_by snapshots)) ((eq_by_cmp_equiv names_total).symm name q)
      ∙ ap (cond (eq_by_cmp by_bytes q name) None) (sym (get_is snapshots q))
      ∙ sym (fin.get-remove names_total (by_name f snapshots) name q))
