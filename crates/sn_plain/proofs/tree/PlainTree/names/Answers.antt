use Rattle.std.proofs.Common.{sym, ◌∙◌}
use Rattle.sn_nodes.specs.Stored.{directories_of, links_of}
use Rattle.sn_nodes.proofs.ListingLemmas.{names-all_links}
use Rattle.sn_plain.proofs.tree.PlainTree.names.Goals as goal

pub returns : goal.returns
unfolding links_of
returns c = c.new.ensures ∙ c.in_ok-names.ensures ∙ sym (names-all_links (directories_of c.args.self.now.links) c.args.directory)
