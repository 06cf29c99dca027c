-- A block that is lent.
use Rattle.std.proofs.Common.{◌≡◌, ℕ, List, Option, Some, None, IfSome, ◌∙◌}
use Rattle.std.specs.Prelude.{IsSome}

-- what is known of the number is known of the bytes
pub lent_is : (number : Option ℕ) (store : ℕ → List ℕ) (bytes wanted : List ℕ) → IsSome number
    → IfSome number (λ n. bytes ≡ store n) → IfSome number (λ n. store n ≡ wanted) → bytes ≡ wanted
lent_is None store bytes wanted some lent is = absurd cc
lent_is (Some n) store bytes wanted some lent is = lent ∙ is
