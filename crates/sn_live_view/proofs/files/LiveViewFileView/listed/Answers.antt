use Rattle.std.proofs.Common.{ℕ, map, sym, ap, ◌∙◌}
use Rattle.sn_walk.specs.declared.object.Home.{Home}
use Rattle.sn_walk.specs.declared.object.Object.{Object}
use Rattle.sn_model.specs.declared.link.Link.{Link}
use Rattle.sn_model.specs.Seen.{listed, names_if}
use Rattle.sn_model.specs.World.{Trees, tree_in}
use Rattle.sn_live_files.proofs.ListingLemmas.{names_of-links}
use Rattle.sn_live_view.specs.Live.{live_trees}
use Rattle.sn_live_view.proofs.files.LiveViewFileView.listed.Goals as goal

pub returns-in_ok-names_alone-in-Live-clause-found : goal.returns-in_ok-names_alone-in-Live-clause-found
returns-in_ok-names_alone-in-Live-clause-found g c told =
    let tree = g.T.Below.shows c.args.self.now.tree.now in
    let trees : Trees = live_trees tree (g.T.HasSnapshots.frozen c.args.self.now.tree.now) in
    let number = c.in-Node.number in
    c.in_ok-names_alone-in-Live.ensures
    ∙ ap (map (λ (e : Link × ℕ). e.0.name)) (c.in_ok-links-in-Live.ensures.found told)
    ∙ names_of-links tree number
    ∙ sym (ap (λ (o : Object). listed trees o) c.in-Node.is ∙ ap (λ (h : Home). names_if (tree_in trees h) number) c.in-Live.is)
