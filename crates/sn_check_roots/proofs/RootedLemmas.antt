-- The roots of a disk, in a row, each with a bit above those before it.
use Rattle.std.proofs.Common.{◌≡◌, ◌≢◌, ◌⊎◌, inl, inr, ⊎_elim, ℕ, zero, suc, ◌+◌, ◌<◌, ◌&&◌, true, List, [], ◌∷◌, length, map, take, drop, get_or, Contains, refl, sym, ap, subst, ◌∙◌, arith}
use Rattle.std.specs.Prelude.{nat_le, nat_lt}
use Rattle.std.proofs.lemmas.Bool.{and_parts, ltb-true}
use Rattle.std.proofs.lemmas.List.{get_or-take, length-take-le, take-append-drop, take_more}
use Rattle.std.proofs.lemmas.List.Elements.{Contains-append_cases, Contains-append_left}
use Rattle.sn_layout.specs.RootBody.{IsRootBody}
use Rattle.sn_layout.specs.Snapshot.{are_distinct, are_rising, are_within}
use Rattle.sn_layout.specs.declared.root.RootBody.{RootBody}
use Rattle.sn_layout.specs.declared.snapshot.Snapshot.{Snapshot}
use Rattle.sn_image.proofs.ListLemmas.{none_in}
use Rattle.sn_image.proofs.PieceLemmas.{cases}
use Rattle.sn_sound.specs.Maps.{Rooted, frozen_root, rooted_in}

-- ---- rising bits

-- each bit is above the one before it
AreRising : ℕ → List Rooted → Type 0
AreRising before [] = Unit {0}
AreRising before (r ∷ rs) = (before < r.bit) × AreRising r.bit rs

frozen_rise : (before : ℕ) (snapshots : List Snapshot) → are_rising before snapshots ≡ true → AreRising before (map frozen_root snapshots)
unfolding AreRising
frozen_rise before [] rise = tt
frozen_rise before (s ∷ more) rise =
    let parts = and_parts (nat_lt before s.bit) (are_rising s.bit more) rise in
    (ltb-true before s.bit parts.0, frozen_rise s.bit more parts.1)

-- one root is above all that are before it
rises : (before : ℕ) (rs : List Rooted) → AreRising before rs → (i : ℕ) (d : Rooted) → i < length rs → (before < (get_or rs i d).bit) × ((r : Rooted) → Contains (take i rs) r → r.bit < (get_or rs i d).bit)
unfolding AreRising
rises before [] rise i d within = absurd (omega (arith, within))
rises before (x ∷ rs) rise zero d within = (rise.0, λ r none. none_in r none)
rises before (x ∷ rs) rise (suc i) d within =
    let w = rises x.bit rs rise.1 i d (omega (arith, within)) in (
      omega (arith, rise.0, w.0),
      λ r among. ⊎_elim
          (λ (same : x ≡ r). subst (λ (q : Rooted). q.bit < (get_or rs i d).bit) same w.0)
          (λ more. w.1 r more)
          (cases x (take i rs) r among),
    )

-- all of them are above what they begin above
above : (before : ℕ) (rs : List Rooted) → AreRising before rs → (r : Rooted) → Contains rs r → before < r.bit
unfolding AreRising
above before [] rise r among = none_in r among
above before (x ∷ rs) rise r among = ⊎_elim
    (λ (same : x ≡ r). subst (λ (q : Rooted). before < q.bit) same rise.0)
    (λ more. omega (arith, rise.0, above x.bit rs rise.1 r more))
    (cases x rs r among)

-- so two with one bit are the same
same_rising : (x : Rooted) (rs : List Rooted) → AreRising x.bit rs → (r q : Rooted) → Contains (x ∷ rs) r → Contains (x ∷ rs) q → r.bit ≡ q.bit → r ≡ q
unfolding AreRising
same_rising x [] rise r q one two bits = ⊎_elim
    (λ (a : x ≡ r). ⊎_elim (λ (b : x ≡ q). sym a ∙ b) (λ none. none_in q none) (cases x [] q two))
    (λ none. none_in r none)
    (cases x [] r one)
same_rising x (y ∷ rs) rise r q one two bits = told (same_rising y rs rise.1 r q) (cases x (y ∷ rs) r one) (cases x (y ∷ rs) q two)
  where
    told : (Contains (y ∷ rs) r → Contains (y ∷ rs) q → r.bit ≡ q.bit → r ≡ q) → (x ≡ r) ⊎ Contains (y ∷ rs) r → (x ≡ q) ⊎ Contains (y ∷ rs) q → r ≡ q
    told later (inl a) (inl b) = sym a ∙ b
    told later (inl a) (inr more) = absurd (omega (arith, bits, ap (λ (p : Rooted). p.bit) a, above x.bit (y ∷ rs) rise q more))
    told later (inr more) (inl b) = absurd (omega (arith, bits, ap (λ (p : Rooted). p.bit) b, above x.bit (y ∷ rs) rise r more))
    told later (inr a) (inr b) = later a b bits

module _ (root : RootBody) (fits : IsRootBody root) where
  rise : are_rising 0 root.snapshots ≡ true
  rise =
      let first = and_parts (nat_le (length root.snapshots) root.limits.snapshots && are_rising 0 root.snapshots && are_within root.limits.largest_bit root.snapshots) (are_distinct root.snapshots) fits.snapshots.held in
      let second = and_parts (nat_le (length root.snapshots) root.limits.snapshots && are_rising 0 root.snapshots) (are_within root.limits.largest_bit root.snapshots) first.0 in
      let third = and_parts (nat_le (length root.snapshots) root.limits.snapshots) (are_rising 0 root.snapshots) second.0 in
      third.1

  -- no root before another has its bit
  pub own_bit : (i : ℕ) (d : Rooted) → i < length (rooted_in root) → (other : Rooted) → Contains (take i (rooted_in root)) other → other.bit ≢ (get_or (rooted_in root) i d).bit
  own_bit zero d within other none same = none_in other none
  own_bit (suc i) d within other among same =
      let w = rises 0 (map frozen_root root.snapshots) (frozen_rise 0 root.snapshots rise) i d (omega (arith, within)) in
      ⊎_elim
      (λ (live : record { bit = 0; inodes = root.inode_file } ≡ other). omega (arith, same, w.0, ap (λ (q : Rooted). q.bit) live))
      (λ more. omega (arith, same, w.1 other more))
      (cases (record { bit = 0; inodes = root.inode_file }) (take i (map frozen_root root.snapshots)) other among)

  -- two roots with one bit are the same
  pub same_root : (r q : Rooted) → Contains (rooted_in root) r → Contains (rooted_in root) q → r.bit ≡ q.bit → r ≡ q
  same_root r q one two bits = same_rising (record { bit = 0; inodes = root.inode_file }) (map frozen_root root.snapshots) (frozen_rise 0 root.snapshots rise) r q one two bits

-- ---- one of them

-- one of a list is among the first so many and one more
pub at_contains : {A : Type 0} (xs : List A) (i : ℕ) (d : A) → i < length xs → Contains xs (get_or xs i d)
at_contains [] i d within = absurd (omega (arith, within))
at_contains (x ∷ xs) zero d within = (0, omega arith, refl)
at_contains (x ∷ xs) (suc i) d within = let w = at_contains xs i d (omega (arith, within)) in (suc w.0, omega (arith, w.1), w.2)

-- what holds of the first ones, and of the next
pub each_more : {A : Type 0} (P : A → Type 0) (xs : List A) (i : ℕ) (x d : A) → i < length xs → get_or xs i d ≡ x → ((r : A) → Contains (take i xs) r → P r) → P x → (r : A) → Contains (take (i + 1) xs) r → P r
each_more {A} P xs i x d within is before here r among = ⊎_elim
    (λ old. before r old)
    (λ new. ⊎_elim
    (λ (same : get_or xs i d ≡ r). subst P (sym is ∙ same) here)
    (λ none. none_in r none)
    (cases (get_or xs i d) [] r new))
    (Contains-append_cases (take i xs) (get_or xs i d ∷ []) r (subst (λ (ys : List A). Contains ys r) (take_more xs i d within) among))

-- one that is before another
pub before_contains : {A : Type 0} (xs : List A) (i j : ℕ) (d : A) → j < i → i < length xs → Contains (take i xs) (get_or xs j d)
before_contains {A} xs i j d before within =
    let short : j < length (take i xs) = omega (arith, before, length-take-le i xs (omega (arith, within))) in
    subst (Contains (take i xs)) (get_or-take i xs j d before) (at_contains (take i xs) j d short)

-- one of the first so many is one of them all
pub among_all : {A : Type 0} (xs : List A) (i : ℕ) (r : A) → Contains (take i xs) r → Contains xs r
among_all {A} xs i r among = subst (λ (ys : List A). Contains ys r) (take-append-drop i xs) (Contains-append_left (take i xs) (drop i xs) r among)
