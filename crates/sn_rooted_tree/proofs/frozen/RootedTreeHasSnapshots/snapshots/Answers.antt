use Rattle.std.proofs.Common.{◌∙◌}
use Rattle.std.proofs.lemmas.Result.{IfOk-weaker}
use Rattle.sn_image.specs.Image.{image}
use Rattle.sn_layout.specs.declared.snapshot.Snapshot.{Snapshot}
use Rattle.sn_rooted.specs.Roots.{store_on}
use Rattle.sn_rooted_tree.proofs.FrozenLemmas.{same_names}
use Rattle.sn_snap.specs.Catalogue.{entry_of}
use Rattle.sn_rooted_tree.proofs.frozen.RootedTreeHasSnapshots.snapshots.Goals as goal

pub returns : goal.returns
returns g c told =
    let named = same_names entry_of (λ (s : Snapshot). image (store_on c.args.self.now.blocks.now) s.tree) c.args.self.now.root.now.snapshots in
    IfOk-weaker c.names_of.result _ _ (λ names is. is ∙ c.deref.ensures.0 ∙ c.list.ensures ∙ named) c.names_of.ensures
