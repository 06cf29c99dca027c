-- The way up from a directory, step by step.
use Rattle.std.proofs.Common.{◌≡◌, ◌≢◌, ◌⊎◌, inl, inr, ⊎_elim, ℕ, ◌+◌, ◌≤◌, ◌==◌, Bool, true, false, not, List, count_by, refl, sym, ap, subst, ◌∙◌, arith}
use Rattle.std.proofs.lemmas.Bool.{cases_eq, eq-eqb, eqb-true, true≢false}
use Rattle.sn_census.specs.Climbs.{AreClimbed, AreUnclimbed, LeadsUp, root, below, parents_of}
use Rattle.sn_census.specs.Rows.{Sets, row_at}
use Rattle.sn_census.specs.declared.table.Row.{Row}

-- The way from a directory has reached a number. Each number passed leads up if that does, and has its parent on the way.
pub record IsClimbing (parents : ℕ → ℕ) (directory at : ℕ) (rows : List Row) : Type 0 where
  pub parents_are : (number : ℕ) → (row_at rows number).parent ≡ parents number
  pub before : (number : ℕ) → (row_at rows number).climb ≤ directory
  pub up : (number : ℕ) → (row_at rows number).climb ≢ 0 → (row_at rows number).climb ≢ directory → LeadsUp parents number
  pub top : (row_at rows 2).climb ≢ 0
  pub other : (row_at rows 2).climb ≢ directory
  pub way : LeadsUp parents at → (number : ℕ) → (row_at rows number).climb ≡ directory → LeadsUp parents number
  pub closed : (number : ℕ) → (row_at rows number).climb ≡ directory → ((row_at rows (parents number)).climb ≡ directory) ⊎ (parents number ≡ at)
  pub begun : ((row_at rows directory).climb ≡ directory) ⊎ (at ≡ directory)

pub climbing_begun : (parents : ℕ → ℕ) (directory : ℕ) (rows : List Row) → AreClimbed parents directory rows → IsClimbing parents directory directory rows
climbing_begun parents directory rows climbed = record {
  parents_are = climbed.parents_are;
  before = λ number. omega (arith, climbed.before number);
  up = λ number some other. climbed.up number some;
  top = climbed.top;
  other = λ same. omega (arith, same, climbed.before 2);
  way = λ up number here. absurd (omega (arith, here, climbed.before number));
  closed = λ number here. absurd (omega (arith, here, climbed.before number));
  begun = inr refl;
}

module _ (parents : ℕ → ℕ) (directory at next : ℕ) (a b : List Row) (new : Row) (put : Sets at new a b) (marked : new.climb ≡ directory) (parent : new.parent ≡ (row_at a at).parent) (to : next ≡ (row_at a at).parent) (fresh : (row_at a at).climb ≡ 0) (way : IsClimbing parents directory at a) where
  next_is : next ≡ parents at
  next_is = to ∙ way.parents_are at

  here : (n : ℕ) → n ≡ at → (row_at b n).climb ≡ directory
  here n same = ap (λ (k : ℕ). (row_at b k).climb) same ∙ ap (λ (r : Row). r.climb) put.here ∙ marked

  there : (n : ℕ) → n ≢ at → (row_at b n).climb ≡ (row_at a n).climb
  there n other = ap (λ (r : Row). r.climb) (put.others n other)

  still : (n : ℕ) → (row_at a n).climb ≡ directory → (row_at b n).climb ≡ directory
  still n is = ⊎_elim (λ (same : n ≡ at). here n same) (λ (other : n ≢ at). there n other ∙ is) (cases_eq n at)

  not_top : 2 ≢ at
  not_top same = way.top (ap (λ (k : ℕ). (row_at a k).climb) same ∙ fresh)

  pub climbing_more : IsClimbing parents directory next b
  climbing_more = record {
    parents_are = λ n. ⊎_elim
        (λ (same : n ≡ at). ap (λ (k : ℕ). (row_at b k).parent) same ∙ ap (λ (r : Row). r.parent) put.here ∙ parent ∙ way.parents_are at ∙ ap parents (sym same))
        (λ (other : n ≢ at). ap (λ (r : Row). r.parent) (put.others n other) ∙ way.parents_are n)
        (cases_eq n at);
    before = λ n. ⊎_elim
        (λ (same : n ≡ at). omega (arith, here n same))
        (λ (other : n ≢ at). omega (arith, there n other, way.before n))
        (cases_eq n at);
    up = λ n some apart. ⊎_elim
        (λ (same : n ≡ at). absurd (apart (here n same)))
        (λ (other : n ≢ at). way.up n (λ none. some (there n other ∙ none)) (λ is. apart (there n other ∙ is)))
        (cases_eq n at);
    top = λ none. way.top (sym (there 2 not_top) ∙ none);
    other = λ is. way.other (sym (there 2 not_top) ∙ is);
    way = λ up n is.
        let from : LeadsUp parents at = below at (subst (LeadsUp parents) next_is up) in
        ⊎_elim
        (λ (same : n ≡ at). subst (LeadsUp parents) (sym same) from)
        (λ (other : n ≢ at). way.way from n (sym (there n other) ∙ is))
        (cases_eq n at);
    closed = λ n is. ⊎_elim
        (λ (same : n ≡ at). inr (ap parents same ∙ sym next_is))
        (λ (other : n ≢ at). ⊎_elim
        (λ on. inl (still (parents n) on))
        (λ (last : parents n ≡ at). inl (here (parents n) last))
        (way.closed n (sym (there n other) ∙ is)))
        (cases_eq n at);
    begun = ⊎_elim
        (λ on. inl (still directory on))
        (λ (first : at ≡ directory). inl (here directory (sym first)))
        way.begun;
  }

module _ (parents : ℕ → ℕ) (directory at : ℕ) (rows : List Row) (way : IsClimbing parents directory at rows) where
  -- the way has reached one that leads up
  module _ (some : (row_at rows at).climb ≢ 0) (apart : (row_at rows at).climb ≢ directory) where
    last_up : LeadsUp parents at
    last_up = way.up at some apart

    pub climbed_up : LeadsUp parents directory
    climbed_up = ⊎_elim (λ on. way.way last_up directory on) (λ (same : at ≡ directory). subst (LeadsUp parents) same last_up) way.begun

    pub climbed_more : AreClimbed parents (directory + 1) rows
    climbed_more = record {
      parents_are = way.parents_are;
      before = λ number. omega (arith, way.before number);
      up = λ number marked. ⊎_elim
          (λ (here : (row_at rows number).climb ≡ directory). way.way last_up number here)
          (λ other. way.up number marked other)
          (cases_eq (row_at rows number).climb directory);
      top = way.top;
    }

  -- or back to itself
  never : (row_at rows at).climb ≡ directory → (number : ℕ) → LeadsUp parents number → (row_at rows number).climb ≡ directory → ⊥
  never looped _ root on = way.other on
  never looped _ (below number up) on = ⊎_elim
      (λ still. never looped (parents number) up still)
      (λ (last : parents number ≡ at). never looped (parents number) up (ap (λ (k : ℕ). (row_at rows k).climb) last ∙ looped))
      (way.closed number on)

  pub climbed_apart : (row_at rows at).climb ≡ directory → LeadsUp parents directory → ⊥
  climbed_apart looped up = ⊎_elim
      (λ on. never looped directory up on)
      (λ (same : at ≡ directory). never looped directory up (ap (λ (k : ℕ). (row_at rows k).climb) (sym same) ∙ looped))
      way.begun

-- ---- the beginning

pub climbed_none : (a b : List Row) (new : Row) → Sets 2 new a b → new.climb ≡ 2 → new.parent ≡ (row_at a 2).parent → AreUnclimbed a → AreClimbed (parents_of a) 3 b
climbed_none a b new put marked parent none = record {
  parents_are = λ n. ⊎_elim
      (λ (same : n ≡ 2). ap (λ (k : ℕ). (row_at b k).parent) same ∙ ap (λ (r : Row). r.parent) put.here ∙ parent ∙ ap (parents_of a) (sym same))
      (λ (other : n ≢ 2). ap (λ (r : Row). r.parent) (put.others n other))
      (cases_eq n 2);
  before = λ n. ⊎_elim
      (λ (same : n ≡ 2). omega (arith, here n same))
      (λ (other : n ≢ 2). omega (arith, there n other))
      (cases_eq n 2);
  up = λ n some. ⊎_elim
      (λ (same : n ≡ 2). subst (LeadsUp (parents_of a)) (sym same) root)
      (λ (other : n ≢ 2). absurd (some (there n other)))
      (cases_eq n 2);
  top = λ zero. omega (arith, zero, here 2 refl);
}
  where
    here : (n : ℕ) → n ≡ 2 → (row_at b n).climb ≡ 2
    here n same = ap (λ (k : ℕ). (row_at b k).climb) same ∙ ap (λ (r : Row). r.climb) put.here ∙ marked

    there : (n : ℕ) → n ≢ 2 → (row_at b n).climb ≡ 0
    there n other = ap (λ (r : Row). r.climb) (put.others n other) ∙ none n

-- a number that is no directory's
pub climbed_skip : (parents : ℕ → ℕ) (number : ℕ) (rows : List Row) → AreClimbed parents number rows → AreClimbed parents (number + 1) rows
climbed_skip parents number rows climbed = record { parents_are = climbed.parents_are; before = λ n. omega (arith, climbed.before n); up = climbed.up; top = climbed.top }

-- ---- tests of two numbers

pub apart_told : (a b : ℕ) → not (a == b) ≡ true → a ≢ b
apart_told a b is same = told (a == b) is (eq-eqb a b same)
  where
    told : (t : Bool) → not t ≡ true → t ≡ true → ⊥
    told true is e = true≢false (sym is)
    told false is e = true≢false (sym e)

pub same_told : (a b : ℕ) → not (a == b) ≡ false → a ≡ b
same_told a b is = eqb-true a b (told (a == b) is)
  where
    told : (t : Bool) → not t ≡ false → t ≡ true
    told true e = refl
    told false e = absurd (true≢false e)

-- ---- each step leaves a number fewer

abbrev pub unclimbed : List Row → ℕ
unclimbed rows = count_by (λ (r : Row). r.climb == 0) rows
