use Rattle.std.proofs.Common.{[], ◌∷◌, ℕ, List, refl, sym, subst}
use Rattle.sn_fuse.specs.Body.{Text, Nothing, Spells}
use Rattle.sn_fuse.proofs.named.read_symlink.Goals as goal

pub returns-in_err-name-clause-none : goal.returns-in_err-name-clause-none
returns-in_err-name-clause-none c = λ _ name target s.
    c.in_err-name.ensures.none refl name target (subst (λ (bytes : List ℕ). Spells (Text name ∷ Text target ∷ []) Nothing bytes) (sym c.new.ensures) s)
