use Rattle.std.proofs.Common.{ℕ, List, drop, take, ap, ◌∙◌}
use Rattle.std.specs.FinMap as fin
use Rattle.sn_rooted.specs.Roots.{tree_on}
use Rattle.sn_rooted_tree.proofs.SeenLemmas.{same_bytes}
use Rattle.sn_rooted_tree.proofs.listing.RootedTreeHasContents.read.Goals as goal

pub returns-in-Ok-clause-found : goal.returns-in-Ok-clause-found
returns-in-Ok-clause-found g c told =
    let found = fin.get (tree_on c.args.self.now.blocks.now c.args.self.now.root.now.inode_file).nodes c.args.number in
    (rw c.in-Ok.is at (c.read-answer.ensures.bytes told (c.requires told)))
    ∙ ap (λ (bytes : List ℕ). take c.args.most (drop c.args.offset bytes)) (same_bytes found)
