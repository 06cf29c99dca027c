use Rattle.std.proofs.Common.{◌≡◌, ◌+◌, arith, ap, ◌∙◌}
use Rattle.std.specs.FinMap as map
use Rattle.sn_nodes.specs.declared.nodes.Counts.{Counts}
use Rattle.sn_nodes.specs.Stored.{stored_of, counts_of}
use Rattle.sn_nodes.proofs.RecountLemmas.{set_more, links_left}
use Rattle.sn_nodes.proofs.nodes.Nodes.count_link.Goals as goal

pub overflow_add-counts-2 : goal.overflow_add-counts-2
overflow_add-counts-2 c =
    let old = stored_of c.args.self.now in
    let left = links_left old (stored_of c.set_counts.new.self) c.args.directory c.args.number (c.counts-counts.result.names + 1) c.counts-counts.result c.counts-counts.ensures c.set_counts.ensures.stored in
    let same : c.counts-counts-2.result.links ≡ (counts_of (map.get old c.args.number)).links = ap (λ (x : Counts). x.links) c.counts-counts-2.ensures ∙ left in
    omega (arith, same, c.requires.links)

pub returns-clause-stored : goal.returns-clause-stored
returns-clause-stored c =
    set_more (stored_of c.args.self.now) (stored_of c.set_counts.new.self) (stored_of c.set_counts-2.new.self) c.args.directory c.args.number c.counts-counts.result c.counts-counts-2.result c.counts-counts.ensures c.counts-counts-2.ensures c.set_counts.ensures.stored c.set_counts-2.ensures.stored
