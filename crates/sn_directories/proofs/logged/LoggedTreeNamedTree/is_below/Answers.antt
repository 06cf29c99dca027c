use Rattle.std.proofs.Common.{sym, ◌∙◌}
use Rattle.sn_overlay.specs.Layers.{through}
use Rattle.sn_overlay.specs.Overlays.{layer_of}
use Rattle.sn_directories.proofs.SeenLemmas.{below_seen, directory_seen, not_below}
use Rattle.sn_directories.proofs.logged.LoggedTreeNamedTree.is_below.Goals as goal

pub returns-then-not-is_directory-clause-found : goal.returns-then-not-is_directory-clause-found
returns-then-not-is_directory-clause-found g c told =
    not_below _ c.args.top c.args.directory c.in-Ok.node (c.in-Ok.ensures.found told) (sym c.is_directory.ensures ∙ c.if-not-is_directory.true)

pub returns-else-not-is_directory-clause-found : goal.returns-else-not-is_directory-clause-found
returns-else-not-is_directory-clause-found g c told =
    let tree = through (layer_of c.args.self.now.shown.overlay.now) (g.B.Below.shows c.args.self.now.shown.below.now) in
    let shown = c.requires.1 told in
    let is = sym c.is_directory.ensures ∙ c.if-not-is_directory.false in
    c.is_at_or_below.ensures tree shown.whole shown.tells (directory_seen tree c.args.top c.args.directory c.in-Ok.node (c.in-Ok.ensures.found told) is)
    ∙ below_seen tree c.args.top c.args.directory c.in-Ok.node (c.in-Ok.ensures.found told) is
