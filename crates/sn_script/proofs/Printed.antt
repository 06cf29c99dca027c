-- What was printed, piece by piece, is the whole.
use Rattle.std.proofs.Common.{◌≡◌, ℕ, ◌/◌, ◌%◌, ◌<◌, ◌++◌, Result, Ok, Err, refl, arith}
use Rattle.std.specs.Prelude.{OnOk, decimal}
use Rattle.std.proofs.lemmas.Fmt.{decimal_digit}
use Rattle.sn_words.specs.Fields.{octal}

pub on_ok : {T E P Q : Type 0} (r : Result T E) → (P → Q) → OnOk r P → OnOk r Q
on_ok (Ok x) f h = f h
on_ok (Err e) f h = h

pub four_digits : (n : ℕ) → n < 4096 → decimal (n / 512) ++ (decimal (n / 64 % 8) ++ (decimal (n / 8 % 8) ++ decimal (n % 8))) ≡ octal n
four_digits n lt =
    let a = decimal_digit (n / 512) (omega arith) in
    let b = decimal_digit (n / 64 % 8) (omega arith) in
    let c = decimal_digit (n / 8 % 8) (omega arith) in
    let d = decimal_digit (n % 8) (omega arith) in
    rw (a, b, c, d) refl
