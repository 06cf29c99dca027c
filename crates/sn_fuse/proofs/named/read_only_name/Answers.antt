use Rattle.std.proofs.Common.{[], ◌∷◌, ℕ, List, sym, subst}
use Rattle.sn_fuse.specs.Body.{Text, Nothing, Spells}
use Rattle.sn_fuse.proofs.named.read_only_name.Goals as goal

pub returns-clause-none : goal.returns-clause-none
returns-clause-none c = λ none name s.
    c.read_last_name.ensures.none none name (subst (λ (bytes : List ℕ). Spells (Text name ∷ []) Nothing bytes) (sym c.new.ensures) s)
