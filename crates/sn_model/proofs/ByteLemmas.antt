-- Lists of bytes.
use Rattle.std.proofs.Common.{◌≡◌, ℕ, suc, ◌<◌, true, nat_lt, List, [], ◌∷◌, get_or, refl}
use Rattle.std.specs.List.{list_all}
use Rattle.std.proofs.lemmas.Bool.{lt-ltb}
use Rattle.sn_model.proofs.ChainLemmas.{and_both}

pub all_bytes : (xs : List ℕ) → ((i : ℕ) → get_or xs i 0 < 256) → list_all (λ b. nat_lt b 256) xs ≡ true
all_bytes [] h = refl
all_bytes (x ∷ xs) h = and_both (nat_lt x 256) (list_all (λ b. nat_lt b 256) xs) (lt-ltb x 256 (h 0)) (all_bytes xs (λ i. h (suc i)))
