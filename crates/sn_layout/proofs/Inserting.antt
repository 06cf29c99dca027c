-- A snapshot put at the index of its bit.
use Rattle.std.proofs.Common.{◌≡◌, ℕ, suc, ◌<◌, Bool, true, false, ◌&&◌, cond, not, List, [], ◌∷◌, refl, ap, arith}
use Rattle.std.specs.Prelude.{insert, nat_lt, nat_le, ◌==◌}
use Rattle.std.proofs.lemmas.Bool.{lt-ltb, leb-true, leb-false, eqb-false}
use Rattle.sn_layout.specs.declared.snapshot.Snapshot.{Snapshot}
use Rattle.sn_layout.specs.Snapshot.{are_rising, index_of, with_snapshot, has_no_bit}

both : (a b : Bool) → (a && b) ≡ true → (a ≡ true) × (b ≡ true)
both true b e = (refl, e)
both false b e = absurd cc

joined : (a b : Bool) → a ≡ true → b ≡ true → (a && b) ≡ true
joined a b x y = rw (x, y) refl

not_true : (b : Bool) → not b ≡ true → b ≡ false
not_true true e = absurd cc
not_true false e = refl

placed_first : (b : Bool) (s first : Snapshot) (more : List Snapshot) → insert more (index_of s.bit more) s ≡ with_snapshot s more
    → insert (first ∷ more) (cond b (suc (index_of s.bit more)) 0) s ≡ cond b (first ∷ with_snapshot s more) (s ∷ first ∷ more)
placed_first true s first more e = ap (λ (l : List Snapshot). first ∷ l) e
placed_first false s first more e = refl

pub placed : (s : Snapshot) (list : List Snapshot) → insert list (index_of s.bit list) s ≡ with_snapshot s list
placed s [] = refl
placed s (first ∷ more) = placed_first (nat_le first.bit s.bit) s first more (placed s more)

rising_first : (b : Bool) (before : ℕ) (s first : Snapshot) (more : List Snapshot) → nat_le first.bit s.bit ≡ b
    → nat_lt before first.bit ≡ true → are_rising first.bit more ≡ true → before < s.bit → (first.bit == s.bit) ≡ false
    → (first.bit < s.bit → are_rising first.bit (with_snapshot s more) ≡ true)
    → are_rising before (cond b (first ∷ with_snapshot s more) (s ∷ first ∷ more)) ≡ true
rising_first true before s first more e low rising above other next =
    let le = leb-true first.bit s.bit e in
    let less : first.bit < s.bit = omega (arith, le, eqb-false first.bit s.bit other) in
    joined (nat_lt before first.bit) (are_rising first.bit (with_snapshot s more)) low (next less)
rising_first false before s first more e low rising above other next =
    let less : s.bit < first.bit = leb-false first.bit s.bit e in
    joined (nat_lt before s.bit) (nat_lt s.bit first.bit && are_rising first.bit more) (lt-ltb before s.bit above) (joined (nat_lt s.bit first.bit) (are_rising first.bit more) (lt-ltb s.bit first.bit less) rising)

pub rising_with : (before : ℕ) (s : Snapshot) (list : List Snapshot) → are_rising before list ≡ true → before < s.bit → has_no_bit s.bit list ≡ true → are_rising before (with_snapshot s list) ≡ true
rising_with before s [] rising above free = joined (nat_lt before s.bit) true (lt-ltb before s.bit above) refl
rising_with before s (first ∷ more) rising above free =
    let parts = both (nat_lt before first.bit) (are_rising first.bit more) rising in
    let others = both (not (first.bit == s.bit)) (has_no_bit s.bit more) free in
    rising_first (nat_le first.bit s.bit) before s first more refl parts.0 parts.1 above (not_true (first.bit == s.bit) others.0) (λ (less : first.bit < s.bit). rising_with first.bit s more parts.1 less others.1)
