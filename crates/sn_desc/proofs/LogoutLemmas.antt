-- The descriptors of a session, closed one after the other.
use Rattle.std.proofs.Common.{◌≡◌, ◌≢◌, ◌⊎◌, inl, inr, ℕ, ◌+◌, ◌<◌, ◌≤◌, ◌==◌, ◌&&◌, Bool, true, false, not, nat_lt, cond, Option, None, refl, sym, ap, ◌∙◌, arith, eq-eqb, eqb-true}
use Rattle.std.specs.FinMap as map
use Rattle.std.proofs.lemmas.Bool.{ltb-true, ltb-false, lt-ltb, le-ltb}
use Rattle.sn_model.proofs.ChainLemmas.{and_right}
use Rattle.sn_model.proofs.MapLemmas.{same_or_apart, get_left, get_removed}
use Rattle.sn_model.specs.Descriptors.{Descriptors, closed, without_session}
use Rattle.sn_model.specs.World.{Descriptor, descriptor_cmp}
use Rattle.sn_model.proofs.HeldLemmas.{descriptors_total, exact_descriptors}

-- the descriptors of a session up to a number
abbrev pub is_below : ℕ → ℕ → ℕ × ℕ → Bool
is_below session fd k = k.0 == session && nat_lt k.1 fd

-- what is open when these are closed
abbrev pub closed_below : Descriptors → ℕ → ℕ → Descriptors
closed_below table session fd = map.retain_keys table (λ k. not (is_below session fd k))

get_kept : (table : Descriptors) (p : ℕ × ℕ → Bool) (q : ℕ × ℕ) → map.get (map.retain_keys table p) q ≡ cond (p q) (map.get table q) None
get_kept table p q = map.get-retain_keys table p q (λ x tied. ap p (sym (exact_descriptors q x tied)))

-- none is closed yet
pub none_below : (table : Descriptors) (session : ℕ) → table ≡ closed_below table session 0
none_below table session = map.same_map descriptors_total exact_descriptors _ _ (λ q.
    sym (get_kept table (λ k. not (is_below session 0 k)) q ∙ ap (λ (b : Bool). cond (not b) (map.get table q) None) (split q (is_below session 0 q) refl)))
  where
    split : (q : ℕ × ℕ) (b : Bool) → is_below session 0 q ≡ b → is_below session 0 q ≡ false
    split q true e = absurd (omega (arith, ltb-true q.1 0 (and_right (q.0 == session) (nat_lt q.1 0) e)))
    split q false e = e

-- one more is closed
pub more_below : (table : Descriptors) (session fd : ℕ) → closed (closed_below table session fd) session fd ≡ closed_below table session (fd + 1)
more_below table session fd = map.same_map descriptors_total exact_descriptors _ _ (λ q. split q (same_or_apart descriptors_total exact_descriptors q (session, fd)))
  where
    now : (n : ℕ) (q : ℕ × ℕ) → map.get (closed_below table session n) q ≡ cond (not (is_below session n q)) (map.get table q) None
    now n q = get_kept table (λ k. not (is_below session n k)) q

    here : is_below session (fd + 1) (session, fd) ≡ true
    here = λ i. eq-eqb session session refl i && lt-ltb fd (fd + 1) (omega arith) i

    alike : (q : ℕ × ℕ) → q ≢ (session, fd) → (a : Bool) → (q.0 == session) ≡ a → (b : Bool) → nat_lt q.1 (fd + 1) ≡ b → is_below session fd q ≡ is_below session (fd + 1) q
    alike q apart false e b f = ap (λ a. a && nat_lt q.1 fd) e ∙ sym (ap (λ a. a && nat_lt q.1 (fd + 1)) e)
    alike q apart true e true f =
        let first = eqb-true q.0 session e in
        let low : q.1 < fd = below (ltb-true q.1 (fd + 1) f) (λ same. apart (λ i. (first i, same i))) in
        ap (λ c. (q.0 == session) && c) (lt-ltb q.1 fd low ∙ sym f)
      where
        below : q.1 < fd + 1 → q.1 ≢ fd → q.1 < fd
        below a b = omega (arith, a, b)
    alike q apart true e false f = ap (λ c. (q.0 == session) && c) (let past = ltb-false q.1 (fd + 1) f in le-ltb q.1 fd (omega (arith, past)) ∙ sym f)

    split : (q : ℕ × ℕ) → (q ≡ (session, fd)) ⊎ (q ≢ (session, fd)) → map.get (closed (closed_below table session fd) session fd) q ≡ map.get (closed_below table session (fd + 1)) q
    split q (inl e) =
        ap (map.get (closed (closed_below table session fd) session fd)) e ∙ get_removed descriptors_total (closed_below table session fd) (session, fd)
        ∙ sym (ap (map.get (closed_below table session (fd + 1))) e ∙ now (fd + 1) (session, fd) ∙ ap (λ (b : Bool). cond (not b) (map.get table (session, fd)) None) here)
    split q (inr a) =
        get_left descriptors_total exact_descriptors (closed_below table session fd) (session, fd) q a ∙ now fd q
        ∙ ap (λ (b : Bool). cond (not b) (map.get table q) None) (alike q a (q.0 == session) refl (nat_lt q.1 (fd + 1)) refl) ∙ sym (now (fd + 1) q)

-- all are closed, where no descriptor has a number of 64 or more
pub all_below : (table : Descriptors) (session fd : ℕ) → 64 ≤ fd → ((s k : ℕ) → 64 ≤ k → map.get table (s, k) ≡ None) → closed_below table session fd ≡ without_session table session
all_below table session fd past far = map.same_map descriptors_total exact_descriptors _ _ (λ q. get_kept table (λ k. not (is_below session fd k)) q ∙ split q (nat_lt q.1 64) refl ∙ sym (get_kept table (λ k. not (k.0 == session)) q))
  where
    both_same : (a b : Bool) (o : Option Descriptor) → cond a o o ≡ cond b o o
    both_same true true o = refl
    both_same true false o = refl
    both_same false true o = refl
    both_same false false o = refl

    split : (q : ℕ × ℕ) (b : Bool) → nat_lt q.1 64 ≡ b → cond (not (is_below session fd q)) (map.get table q) None ≡ cond (not (q.0 == session)) (map.get table q) None
    split q true e = ap (λ (c : Bool). cond (not c) (map.get table q) None) (each (q.0 == session))
      where
        each : (a : Bool) → (a && nat_lt q.1 fd) ≡ a
        each true = lt-ltb q.1 fd (omega (arith, ltb-true q.1 64 e, past))
        each false = refl
    split q false e =
        let none = far q.0 q.1 (ltb-false q.1 64 e) in
        ap (λ (o : Option Descriptor). cond (not (is_below session fd q)) o None) none ∙ both_same (not (is_below session fd q)) (not (q.0 == session)) None ∙ sym (ap (λ (o : Option Descriptor). cond (not (q.0 == session)) o None) none)

-- a session that is closed has none, and the others keep theirs
pub without_own : (table : Descriptors) (session fd : ℕ) → map.get (without_session table session) (session, fd) ≡ None
without_own table session fd = get_kept table (λ k. not (k.0 == session)) (session, fd) ∙ ap (λ (b : Bool). cond (not b) (map.get table (session, fd)) None) (eq-eqb session session refl)

pub without_none : (table : Descriptors) (session s fd : ℕ) → map.get table (s, fd) ≡ None → map.get (without_session table session) (s, fd) ≡ None
without_none table session s fd none = get_kept table (λ k. not (k.0 == session)) (s, fd) ∙ ap (λ (o : Option Descriptor). cond (not (s == session)) o None) none ∙ each (not (s == session)) None
  where
    each : (b : Bool) (o : Option Descriptor) → cond b o o ≡ o
    each true o = refl
    each false o = refl

-- where no session has a descriptor, nothing is open
pub all_none : (table : Descriptors) → ((s fd : ℕ) → map.get table (s, fd) ≡ None) → table ≡ map.empty
all_none table none = map.same_map descriptors_total exact_descriptors _ _ (λ q. none q.0 q.1 ∙ sym (map.get-empty descriptor_cmp q))
