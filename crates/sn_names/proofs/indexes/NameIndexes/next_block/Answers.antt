use Rattle.std.proofs.Common.{◌≡◌, ◌<◌, length, sym, ap, subst, ◌∙◌, arith}
use Rattle.sn_layout.specs.declared.tree.BlockTree.{BlockTree}
use Rattle.sn_names.specs.declared.kept.KeptIndex.{KeptIndex}
use Rattle.sn_names.specs.Told.{IsSeen, LacksName}
use Rattle.sn_names.specs.Index.{Tells}
use Rattle.sn_names.proofs.IndexesLemmas.{of_all}
use Rattle.sn_names.proofs.indexes.NameIndexes.next_block.Goals as goal

pub returns-in-Some-clause-passed : goal.returns-in-Some-clause-passed
returns-in-Some-clause-passed c = λ sectors s i all low high.
    let list = c.args.self.now.list in
    let kept = c.index.result.now in
    let within : c.in-Some.k < length list.items = let w = c.in-Some.ensures.within in omega (arith, list.ok.0) in
    let told = of_all (λ (k : KeptIndex). Tells sectors s k.index) list.items c.in-Some.k kept within c.index.ensures all in
    let tree : kept.index.tree ≡ c.args.tree.now = ap (λ (k : KeptIndex). k.index.tree) c.index.ensures ∙ c.in-Some.ensures.found kept in
    subst (λ (t : BlockTree). IsSeen sectors s t i (LacksName c.args.name.now)) tree
    (c.next_block.ensures.passed sectors s c.args.name.now i told (sym c.of.ensures) low high)
