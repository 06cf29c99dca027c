use Rattle.std.proofs.Common.{ℕ, get_or, subst}
use Rattle.sn_names.specs.Index.{RestsOn}
use Rattle.sn_names.proofs.IndexesLemmas.{stays_beside}
use Rattle.sn_names.proofs.indexes.NameIndexes.forget.Goals as goal

pub returns-in-Ok : goal.returns-in-Ok
returns-in-Ok c = λ sectors s r all same k d within.
    let index = (get_or c.let_go.new.self.list.items k d).index in
    stays_beside sectors s r index c.args.block (c.let_go.ensures.told sectors s all k d within)
    (subst (λ (block : ℕ). RestsOn index block → ⊥) c.in-Ok.ensures.1 (c.let_go.ensures.gone k d within)) same
