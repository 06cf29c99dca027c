-- A number that a word spells is read, unless memory ran out.
use Rattle.std.proofs.Common.{◌≡◌, ◌∙◌, ◌<◌, ◌^◌, ℕ, List, Some, Result, Ok, Err, IfErr, IsErrAnd, refl, sym, ap, lit≤, true≢false}
use Rattle.std.specs.Prelude.{decimal, is_some, unwrap_or}
use Rattle.sn_words.specs.declared.fault.SpellingFault.{SpellingFault}
use Rattle.sn_words.specs.declared.fault.SpellingFault.TheVariants.{Bad, Memory}
use Rattle.sn_words.specs.Reading.{IsRead, number_below}
use Rattle.sn_words.proofs.Numbers.{number_again}

pub number_fault : (fault : SpellingFault) (word : List ℕ) (n : ℕ) → n < 2 ^ 32 → word ≡ decimal n
    → IsRead {X = ℕ} {Y = ℕ} (λ n. n) (Err fault) (number_below (2 ^ 32) word) → fault ≡ Memory
number_fault Bad word n lt is none = absurd (true≢false (ap is_some (sym (number_again (2 ^ 32) n (lit≤ tt) lt) ∙ ap (number_below (2 ^ 32)) (sym is) ∙ none)))
number_fault Memory word n lt is read = refl

pub same_word : (a b : List ℕ) → Some a ≡ Some b → a ≡ b
same_word a b e = ap (λ o. unwrap_or o a) e

-- what is known of an error
pub err_is : {T E : Type 0} (r : Result T E) (P Q : E → Type 0) → IsErrAnd r P → ((y : E) → P y → Q y) → IfErr r Q
err_is (Ok x) P Q h weaker = absurd h
err_is (Err y) P Q h weaker = weaker y h
