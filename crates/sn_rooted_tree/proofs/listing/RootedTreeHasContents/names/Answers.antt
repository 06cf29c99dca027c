use Rattle.std.proofs.Common.{◌∙◌}
use Rattle.sn_rooted.specs.Roots.{tree_on}
use Rattle.sn_rooted_tree.proofs.ListedLemmas.{listed_links}
use Rattle.sn_rooted_tree.proofs.listing.RootedTreeHasContents.names.Goals as goal

pub returns-in_ok-links_of-in-Ok-clause-found : goal.returns-in_ok-links_of-in-Ok-clause-found
returns-in_ok-links_of-in-Ok-clause-found g c told =
    let same = rw c.in-Ok.is at (c.names-answer.ensures.names told (c.requires told)) in
    let numbers = rw c.in-Ok.is at (c.names-answer.ensures.numbers told (c.requires told)) in
    c.in_ok-links_of-in-Ok.ensures
    ∙ listed_links (tree_on c.args.self.now.blocks.now c.args.self.now.root.now.inode_file) c.args.directory c.in-Ok.names.items same numbers
