-- The first gap of rising bits is the least bit that is free.
use Rattle.std.proofs.Common.{◌≡◌, ℕ, suc, ◌<◌, ◌≤◌, ◌+◌, Bool, true, false, cond, not, List, [], ◌∷◌, length, drop, get_or, drop-cons, add-one, refl, sym, ap, ◌∙◌, arith}
use Rattle.std.specs.Prelude.{nat_lt, ◌==◌}
use Rattle.std.specs.Cmp.Derive.{both_true}
use Rattle.std.proofs.lemmas.Bool.{and_parts, eqb-false, lt-ltb, ltb-false, ltb-true, ne_eqb, not-true}
use Rattle.std.proofs.lemmas.List.{drop_all}
use Rattle.sn_layout.specs.declared.snapshot.Snapshot.{Snapshot}
use Rattle.sn_layout.specs.Snapshot.{are_rising, has_no_bit}
use Rattle.sn_snap.specs.Catalogue.{IsLeastFree}

-- the least bit above one before them all that none has
abbrev pub gap_after : ℕ → List Snapshot → ℕ
gap_after before [] = suc before
gap_after before (s ∷ more) = cond (nat_lt (suc before) s.bit) (suc before) (gap_after (suc before) more)

pub record IsGap (before : ℕ) (snapshots : List Snapshot) (bit : ℕ) : Type 0 where
  pub above : before < bit
  pub free : has_no_bit bit snapshots ≡ true
  pub least : (other : ℕ) → before < other → has_no_bit other snapshots ≡ true → bit ≤ other
  pub near : bit ≤ length snapshots + suc before

-- none has a bit that is not above what they rise from
below_all : (before bit : ℕ) (snapshots : List Snapshot) → are_rising before snapshots ≡ true → bit ≤ before → has_no_bit bit snapshots ≡ true
below_all before bit [] rising low = refl
below_all before bit (s ∷ more) rising low =
    let parts = and_parts (nat_lt before s.bit) (are_rising s.bit more) rising in
    let less : before < s.bit = ltb-true before s.bit parts.0 in
    both_true {s = not (s.bit == bit)} {t = has_no_bit bit more}
    (ap not (ne_eqb s.bit bit (λ e. omega (arith, e, less))))
    (below_all s.bit bit more parts.1 (omega (arith, less)))

gap_first : (before : ℕ) (s : Snapshot) (more : List Snapshot) (b : Bool) → nat_lt (suc before) s.bit ≡ b → before < s.bit → are_rising s.bit more ≡ true
    → (are_rising (suc before) more ≡ true → IsGap (suc before) more (gap_after (suc before) more))
    → IsGap before (s ∷ more) (cond b (suc before) (gap_after (suc before) more))
gap_first before s more true e less rising next =
    let far : suc before < s.bit = ltb-true (suc before) s.bit e in
    record {
      above = omega arith;
      free = both_true {s = not (s.bit == suc before)} {t = has_no_bit (suc before) more} (ap not (ne_eqb s.bit (suc before) (λ same. omega (arith, same, far)))) (below_all s.bit (suc before) more rising (omega (arith, far)));
      least = λ other high free. omega (arith, high);
      near = omega arith;
    }
gap_first before s more false e less rising next =
    let here : s.bit ≡ suc before = omega (arith, less, ltb-false (suc before) s.bit e) in
    let rest = next (ap (λ b. are_rising b more) (sym here) ∙ rising) in
    record {
      above = omega (arith, rest.above);
      free = both_true {s = not (s.bit == gap_after (suc before) more)} {t = has_no_bit (gap_after (suc before) more) more}
          (ap not (ne_eqb s.bit (gap_after (suc before) more) (λ same. omega (arith, same, here, rest.above)))) rest.free;
      least = λ other high free.
          let parts = and_parts (not (s.bit == other)) (has_no_bit other more) free in
          let apart : s.bit ≡ other → ⊥ = eqb-false s.bit other (not-true (s.bit == other) parts.0) in
          rest.least other (omega (arith, high, here, apart)) parts.1;
      near = omega (arith, rest.near);
    }

pub gap_is : (before : ℕ) (snapshots : List Snapshot) → are_rising before snapshots ≡ true → IsGap before snapshots (gap_after before snapshots)
gap_is before [] rising = record { above = omega arith; free = refl; least = λ other high free. omega (arith, high); near = omega arith }
gap_is before (s ∷ more) rising =
    let parts = and_parts (nat_lt before s.bit) (are_rising s.bit more) rising in
    gap_first before s more (nat_lt (suc before) s.bit) refl (ltb-true before s.bit parts.0) parts.1 (λ next. gap_is (suc before) more next)

pub least_free : (snapshots : List Snapshot) (bit : ℕ) → are_rising 0 snapshots ≡ true → bit ≡ gap_after 0 snapshots → IsLeastFree snapshots bit
least_free snapshots bit rising is =
    let gap = gap_is 0 snapshots rising in
    record {
      from_one = omega (arith, is, gap.above);
      free = ap (λ n. has_no_bit n snapshots) is ∙ gap.free;
      least = λ other high free. omega (arith, is, gap.least other (omega arith) free);
    }

-- ---- where a pass over them stops

pub gap_end : (snapshots : List Snapshot) (i : ℕ) → length snapshots ≤ i → gap_after i (drop i snapshots) ≡ i + 1
gap_end snapshots i far = ap (gap_after i) (drop_all i snapshots far) ∙ sym (add-one i)

pub gap_here : (snapshots : List Snapshot) (i : ℕ) (s : Snapshot) → i < length snapshots → s ≡ get_or snapshots i s → i + 1 < s.bit → gap_after i (drop i snapshots) ≡ i + 1
gap_here snapshots i s within is far =
    ap (gap_after i) (drop-cons snapshots i s within)
    ∙ ap (λ (x : Snapshot). gap_after i (x ∷ drop (suc i) snapshots)) (sym is)
    ∙ ap (λ b. cond b (suc i) (gap_after (suc i) (drop (suc i) snapshots))) (lt-ltb (suc i) s.bit (omega (arith, far)))
    ∙ sym (add-one i)
