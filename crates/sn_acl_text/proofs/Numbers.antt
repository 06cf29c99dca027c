-- Numbers of users and groups.
use Rattle.std.proofs.Common.{◌≡◌, ℕ, ◌^◌, ◌<◌, ◌&&◌, Bool, true, cond, Some, None, Result, Ok, Err, ⊎_elim, List, sym, ap, ◌∙◌}
use Rattle.std.specs.Prelude.{nat_lt, decimal}
use Rattle.std.specs.Result.{OkIff, result_ok}
use Rattle.std.specs.Str.{bytes_eq}
use Rattle.std.specs.Str.Parse.{digits_value}
use Rattle.std.proofs.lemmas.Bool.{cases_Bool, lt-ltb, ltb-true}
use Rattle.std.proofs.lemmas.Fmt.{decimal_is_IsNumeral}
use Rattle.std.proofs.lemmas.Slice.Eq.{bytes_eq-Decides}
use Rattle.sn_acl_text.specs.Reading.{number_of}

-- the digits of a number are it, where it has 32 bits
pub number_is : (digits : List ℕ) (n : ℕ) → n < 2 ^ 64 → digits ≡ decimal n → number_of digits ≡ cond (nat_lt n 4294967296) (Some n) None
number_is digits n small is =
    let value : digits_value 10 digits ≡ n = ap (digits_value 10) is ∙ (decimal_is_IsNumeral n small).1 in
    let same : bytes_eq digits (decimal (digits_value 10 digits)) ≡ true = (bytes_eq-Decides digits (decimal (digits_value 10 digits))).1 (is ∙ ap decimal (sym value)) in
    ap (λ (b : Bool). cond (b && nat_lt (digits_value 10 digits) 4294967296) (Some (digits_value 10 digits)) None) same ∙ ap (λ v. cond (nat_lt v 4294967296) (Some v) None) value

-- a number of 32 bits is read, and another isn't
pub as_tried : {E : Type 0} (tried : Result ℕ E) (n : ℕ) → OkIff tried (n < 4294967296) n → result_ok tried ≡ cond (nat_lt n 4294967296) (Some n) None
as_tried (Ok x) n is = ap (λ v. Some v) is.1 ∙ sym (ap (λ (b : Bool). cond b (Some n) None) (lt-ltb n 4294967296 is.0))
as_tried (Err e) n is =
    ⊎_elim
    (λ small. absurd (is (ltb-true n 4294967296 small)))
    (λ large. sym (ap (λ (b : Bool). cond b (Some n) None) large))
    (cases_Bool (nat_lt n 4294967296))
