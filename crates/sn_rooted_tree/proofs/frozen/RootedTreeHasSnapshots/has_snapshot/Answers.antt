use Rattle.std.proofs.Common.{is_some, ap, ◌∙◌}
use Rattle.sn_rooted.specs.Roots.{store_on}
use Rattle.sn_rooted.proofs.ViewLemmas.{has_named}
use Rattle.sn_rooted_tree.proofs.frozen.RootedTreeHasSnapshots.has_snapshot.Goals as goal

pub returns : goal.returns
returns g c =
    c.is_some.ensures
    ∙ ap is_some c.frozen_file.ensures
    ∙ has_named (store_on c.args.self.now.blocks.now) c.args.self.now.root.now c.args.name.now
