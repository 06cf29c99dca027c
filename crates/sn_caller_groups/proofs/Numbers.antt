-- A word is read as a number exactly where it spells it.
use Rattle.std.proofs.Common.{◌≡◌, ℕ, ◌^◌, ◌<◌, Bool, true, false, cond, ltb, List, Option, Some, None, refl, subst, arith}
use Rattle.std.specs.Prelude.{decimal, ◌&&◌}
use Rattle.std.specs.Str.{bytes_eq}
use Rattle.std.specs.Str.Parse.{digits_value}
use Rattle.std.proofs.lemmas.Bool.{lt-ltb, ltb-true}
use Rattle.std.proofs.lemmas.Fmt.{decimal_is_IsNumeral}
use Rattle.std.proofs.lemmas.Slice.Eq.{bytes_eq-Decides}
use Rattle.sn_caller_groups.specs.Status.{number_of}

passed : (a b : Bool) (m n : ℕ) → cond (a && b) (Some m) None ≡ Some n → (a ≡ true) × (b ≡ true) × (m ≡ n)
passed true true m n e = (refl, refl, cc)
passed true false m n e = absurd cc
passed false b m n e = absurd cc

none_from : (o : Option ℕ) → ((n : ℕ) → o ≡ Some n → ⊥) → o ≡ None
none_from None h = refl
none_from (Some n) h = absurd (h n refl)

pub number_again : (n : ℕ) → n < 2 ^ 32 → number_of (decimal n) ≡ Some n
unfolding number_of
number_again n lt =
    let small : n < 2 ^ 64 = omega arith in
    let value : digits_value 10 (decimal n) ≡ n = (decimal_is_IsNumeral n small).1 in
    let same : bytes_eq (decimal n) (decimal n) ≡ true = (bytes_eq-Decides (decimal n) (decimal n)).1 refl in
    let below : ltb n (2 ^ 32) ≡ true = lt-ltb n (2 ^ 32) lt in
    rw (value, same, below) refl

pub number_takes : (n : ℕ) (word : List ℕ) → number_of word ≡ Some n → (word ≡ decimal n) × (n < 2 ^ 32)
unfolding number_of
number_takes n word e =
    let v = digits_value 10 word in
    let t = passed (bytes_eq word (decimal v)) (ltb v (2 ^ 32)) v n e in
    let same : word ≡ decimal v = (bytes_eq-Decides word (decimal v)).0 t.0 in
    let below : v < 2 ^ 32 = ltb-true v (2 ^ 32) t.1 in
    subst (λ (k : ℕ). (word ≡ decimal k) × (k < 2 ^ 32)) t.2 (same, below)

-- where no number is spelled so, none is read
pub number_none : (word : List ℕ) → ((n : ℕ) → n < 2 ^ 32 → word ≡ decimal n → ⊥) → None ≡ number_of word
number_none word h =
    let none : number_of word ≡ None = none_from (number_of word) (λ n e. let t = number_takes n word e in h n t.1 t.0) in
    cc
