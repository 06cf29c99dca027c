use Rattle.std.proofs.Common.{◌≡◌, ℕ, refl}
use Rattle.std.proofs.lemmas.List.Elements.{All-replicate}
use Rattle.sn_tree.proofs.parts.no_behind.Goals as goal

pub returns-clause-holes : goal.returns-clause-holes
returns-clause-holes c = All-replicate (λ (p : ℕ). p ≡ 0) 1008 0 refl
