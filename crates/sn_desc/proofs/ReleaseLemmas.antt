-- What closing descriptors one after the other releases.
use Rattle.std.proofs.Common.{◌≡◌, ◌≢◌, ◌⊎◌, inl, inr, ℕ, ◌+◌, ◌<◌, ◌≤◌, ◌==◌, Bool, true, false, cond, List, [], ◌∷◌, ◌++◌, Option, Some, None, length, get_or, Contains, refl, subst, sym, ap, ◌∙◌, arith, eq-eqb, eqb-true, length-append}
use Rattle.std.specs.FinMap as map
use Rattle.std.proofs.lemmas.Bool.{true≢false, ltb-true, ltb-false, lt-ltb}
use Rattle.std.proofs.lemmas.List.Elements.{Contains-append_left, Contains-get_or, Contains-push, Contains-push_cases}
use Rattle.std.proofs.lemmas.List.Quantifiers.{all_pairs_push}
use Rattle.sn_walk.specs.declared.object.Home.{Home}
use Rattle.sn_walk.specs.declared.object.Home.TheVariants.{Live, Frozen}
use Rattle.sn_model.proofs.ChainLemmas.{some_same}
use Rattle.sn_model.proofs.CountLemmas.{count, count_fewer, count_removed, once}
use Rattle.sn_model.proofs.EntryLemmas.{share, total-remove}
use Rattle.sn_model.specs.Settling.{is_of_live}
use Rattle.sn_model.specs.World.{Descriptor}
use Rattle.sn_model.specs.Descriptors.{Descriptors, closed, is_held_in, released_at}
use Rattle.sn_desc.specs.Holders.{is_live}
use Rattle.sn_desc.specs.InUse.{live_in}
use Rattle.sn_desc.specs.Closing.{AreReleased, LostTheLast, pushed, released_if}
use Rattle.sn_model.proofs.HeldLemmas.{descriptors_total, exact_descriptors, held_count, is_holder}

-- one descriptor is closed
module _ (table : Descriptors) (k : ℕ × ℕ) where
  abbrev left : Descriptors
  left = map.remove table k

  abbrev parts : ℕ → Option Descriptor → ℕ
  parts number o = share (once (is_holder number)) k o

  -- what held a file holds it still, or was the one that went
  balance : (number : ℕ) → count (is_holder number) left + parts number (map.get table k) ≡ count (is_holder number) table
  balance number = total-remove descriptors_total exact_descriptors (once (is_holder number)) table k

  some_held : (t : Descriptors) (number : ℕ) → is_held_in t number ≡ true → 0 < count (is_holder number) t
  some_held t number e = ltb-true 0 (count (is_holder number) t) (sym (held_count t number) ∙ e)

  none_held : (t : Descriptors) (number : ℕ) → is_held_in t number ≡ false → count (is_holder number) t ≤ 0
  none_held t number e = ltb-false 0 (count (is_holder number) t) (sym (held_count t number) ∙ e)

  held_by : (t : Descriptors) (number : ℕ) → 0 < count (is_holder number) t → is_held_in t number ≡ true
  held_by t number some = held_count t number ∙ lt-ltb 0 (count (is_holder number) t) some

  -- what is held when it is gone was held
  pub still_held : (number : ℕ) → is_held_in left number ≡ true → is_held_in table number ≡ true
  still_held number e = held_by table number (omega (arith, balance number, some_held left number e))

  -- a file whose last descriptor went is reported
  told_home : (number : ℕ) (home : Home) (other : ℕ) → is_held_in left number ≡ false → 0 < cond (is_of_live number home other) 1 0 → released_at left home other ≡ Some number
  told_home number Live other none some = split (other == number) refl
    where
      split : (b : Bool) → (other == number) ≡ b → released_at left Live other ≡ Some number
      split true e =
          let same = eqb-true other number e in
          ap (λ (n : ℕ). cond (is_held_in left n) None (Some n)) same ∙ ap (λ b. cond b None (Some number)) none
      split false e = let none : cond (other == number) 1 0 ≡ 0 = ap {B = ℕ} (λ (b : Bool). cond b 1 0) e in absurd (omega (arith, none, some))
  told_home number (Frozen name) other none some = absurd (omega (arith, some))

  pub told_last : (number : ℕ) → LostTheLast table left number → released_if left (map.get table k) ≡ Some number
  told_last number lost = split (map.get table k) refl
    where
      count_share : 0 < parts number (map.get table k)
      count_share = omega (arith, balance number, some_held table number lost.0, none_held left number lost.1)

      split : (o : Option Descriptor) → map.get table k ≡ o → released_if left (map.get table k) ≡ Some number
      split None e = let none : parts number (map.get table k) ≡ 0 = ap (parts number) e in absurd (omega (arith, none, count_share))
      split (Some d) e =
          let here : parts number (map.get table k) ≡ cond (is_of_live number d.home d.number) 1 0 = ap (parts number) e in
          ap (released_if left) e ∙ told_home number d.home d.number lost.1 (omega (arith, here, count_share))

  -- and what is reported is such a file
  last_home : (number : ℕ) (home : Home) (other : ℕ) → released_at left home other ≡ Some number → (is_held_in left number ≡ false) × (is_of_live number home other ≡ true)
  last_home number Live other e = split (is_held_in left other) refl
    where
      split : (b : Bool) → is_held_in left other ≡ b → (is_held_in left number ≡ false) × (is_of_live number Live other ≡ true)
      split true f = let never : None ≡ Some number = sym (ap (λ b. cond b None (Some other)) f) ∙ e in absurd cc
      split false f =
          let same : other ≡ number = some_same other number (sym (ap (λ b. cond b None (Some other)) f) ∙ e) in
          (ap (is_held_in left) (sym same) ∙ f, eq-eqb other number same)
  last_home number (Frozen name) other e = let never : None ≡ Some number = e in absurd cc

  pub last_told : (number : ℕ) → released_if left (map.get table k) ≡ Some number → LostTheLast table left number
  last_told number e = split (map.get table k) refl
    where
      split : (o : Option Descriptor) → map.get table k ≡ o → LostTheLast table left number
      split None f = let never : None ≡ Some number = sym (ap (released_if left) f) ∙ e in absurd cc
      split (Some d) f =
          let told = last_home number d.home d.number (sym (ap (released_if left) f) ∙ e) in
          let here : parts number (map.get table k) ≡ 1 = ap (parts number) f ∙ ap {B = ℕ} (λ (b : Bool). cond b 1 0) told.1 in
          (held_by table number (omega (arith, balance number, here)), told.0)

-- nothing is released where nothing is closed
pub none_released : (table : Descriptors) → AreReleased table table []
none_released table = record {
  each = λ number. (λ c. absurd (omega (arith, c.1)), λ lost. absurd (true≢false (sym lost.0 ∙ lost.1)));
  once = λ i j d low high. absurd (omega (arith, high));
}

module _ (old table : Descriptors) (k : ℕ × ℕ) (numbers : List ℕ) (h : AreReleased old table numbers) (was : (number : ℕ) → is_held_in table number ≡ true → is_held_in old number ≡ true) where
  abbrev rest : Descriptors
  rest = map.remove table k

  gone : (number : ℕ) → is_held_in table number ≡ false → is_held_in rest number ≡ false
  gone number e = split (is_held_in rest number) refl
    where
      split : (b : Bool) → is_held_in rest number ≡ b → is_held_in rest number ≡ false
      split true f = absurd (true≢false (sym (still_held table k number f) ∙ e))
      split false f = f

  -- nothing is reported
  pub no_more : released_if rest (map.get table k) ≡ None → AreReleased old rest numbers
  no_more none = record {
    each = λ number. (
      λ c. let lost = (h.each number).0 c in (lost.0, gone number lost.1),
      λ lost. split number lost (is_held_in table number) refl,
    );
    once = h.once;
  }
    where
      split : (number : ℕ) → LostTheLast old rest number → (b : Bool) → is_held_in table number ≡ b → Contains numbers number
      split number lost true e = let never : None ≡ Some number = sym none ∙ told_last table k number (e, lost.1) in absurd cc
      split number lost false e = (h.each number).1 (lost.0, e)

  -- a file is reported
  pub one_more : (told : ℕ) → released_if rest (map.get table k) ≡ Some told → AreReleased old rest (numbers ++ told ∷ [])
  one_more told is = record {
    each = λ number. (λ c. to number (Contains-push_cases numbers told number c), λ lost. from number lost (is_held_in table number) refl);
    once = all_pairs_push (λ a b. a ≢ b) numbers told h.once (λ i d within same. absurd (true≢false (sym (last_told table k told is).0 ∙ ap (is_held_in table) (sym same) ∙ ((h.each (get_or numbers i d)).0 (Contains-get_or numbers i d within)).1)));
  }
    where
      to : (number : ℕ) → Contains numbers number ⊎ (told ≡ number) → LostTheLast old rest number
      to number (inl c) = let lost = (h.each number).0 c in (lost.0, gone number lost.1)
      to number (inr same) =
          let lost = last_told table k told is in
          (ap (is_held_in old) (sym same) ∙ was told lost.0, ap (is_held_in rest) (sym same) ∙ lost.1)

      from : (number : ℕ) → LostTheLast old rest number → (b : Bool) → is_held_in table number ≡ b → Contains (numbers ++ told ∷ []) number
      from number lost true e =
          let same : number ≡ told = some_same number told (sym (told_last table k number (e, lost.1)) ∙ is) in
          rw same (Contains-push numbers told)
      from number lost false e = Contains-append_left numbers (told ∷ []) number ((h.each number).1 (lost.0, e))

-- what is reported is put after the others
pub more_released : (old table new : Descriptors) (session fd : ℕ) (numbers more : List ℕ) (told : Option ℕ) → AreReleased old table numbers → ((number : ℕ) → is_held_in table number ≡ true → is_held_in old number ≡ true)
    → new ≡ closed table session fd → told ≡ released_if (closed table session fd) (map.get table (session, fd)) → more ≡ pushed numbers told → AreReleased old new more
more_released old table new session fd numbers more told h was is_new is_told is_more =
    let P : Descriptors × List ℕ → Type 0 = λ p. AreReleased old p.0 p.1 in
    subst P (sym (λ i. (is_new i, is_more i))) (by told is_told)
  where
    by : (o : Option ℕ) → o ≡ released_if (closed table session fd) (map.get table (session, fd)) → AreReleased old (closed table session fd) (pushed numbers o)
    by None e = no_more old table (session, fd) numbers h was (sym e)
    by (Some n) e = one_more old table (session, fd) numbers h was n (sym e)

-- and what is held then was held before
pub held_before : (table new : Descriptors) (session fd : ℕ) → new ≡ closed table session fd → (number : ℕ) → is_held_in new number ≡ true → is_held_in table number ≡ true
held_before table new session fd is number e = still_held table (session, fd) number (sym (ap (λ (t : Descriptors). is_held_in t number) is) ∙ e)

-- one seat for each descriptor is enough
pub pushed_few : (numbers more : List ℕ) (told : Option ℕ) (fd : ℕ) → more ≡ pushed numbers told → length numbers ≤ fd → length more ≤ fd + 1
pushed_few numbers more None fd is few = omega (arith, ap length is, few)
pushed_few numbers more (Some n) fd is few = omega (arith, ap length is, length-append numbers (n ∷ []), few)

-- ---- how many descriptors of live files are left

abbrev is_of_live_file : (ℕ × ℕ) × Descriptor → Bool
is_of_live_file e = is_live e.1.home

-- what a close reports had a descriptor of a live file
told_live : (left : Descriptors) (found : Option Descriptor) (number : ℕ) → released_if left found ≡ Some number → (d : Descriptor) × (found ≡ Some d) × (is_live d.home ≡ true)
told_live left None number e = let never : None ≡ Some number = e in absurd cc
told_live left (Some d) number e = (d, refl, of_home d.home e)
  where
    of_home : (home : Home) → released_at left home d.number ≡ Some number → is_live home ≡ true
    of_home Live f = refl
    of_home (Frozen name) f = let never : None ≡ Some number = f in absurd cc

-- each file that is reported has one fewer
pub closed_live : (table : Descriptors) (k : ℕ × ℕ) (number : ℕ) → released_if (map.remove table k) (map.get table k) ≡ Some number → live_in (map.remove table k) + 1 ≡ live_in table
closed_live table k number e =
    let d = told_live (map.remove table k) (map.get table k) number e in
    omega (arith, count_removed descriptors_total exact_descriptors is_of_live_file table k d.0 d.1, ap {B = ℕ} (λ (b : Bool). cond b 1 0) d.2)

pub closed_fewer : (table : Descriptors) (k : ℕ × ℕ) → live_in (map.remove table k) ≤ live_in table
closed_fewer table k = count_fewer descriptors_total exact_descriptors is_of_live_file table k

pub released_live : (table new : Descriptors) (session fd : ℕ) (numbers more : List ℕ) (told : Option ℕ) (most : ℕ) → new ≡ closed table session fd → told ≡ released_if (closed table session fd) (map.get table (session, fd)) → more ≡ pushed numbers told
    → length numbers + live_in table ≤ most → length more + live_in new ≤ most
released_live table new session fd numbers more None most is_new is_told is_more few = omega (arith, ap length is_more, ap live_in is_new, closed_fewer table (session, fd), few)
released_live table new session fd numbers more (Some n) most is_new is_told is_more few = omega (arith, ap length is_more, length-append numbers (n ∷ []), ap live_in is_new, closed_live table (session, fd) n (sym is_told), few)
