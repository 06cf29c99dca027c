use Rattle.std.proofs.Common.{ℕ, ap, ◌∙◌}
use Rattle.sn_maps.specs.Maps.{updated}
use Rattle.sn_nodes.specs.Stored.{stored_of, with_counts}
use Rattle.sn_nodes.proofs.RecountLemmas.{set_fewer}
use Rattle.sn_nodes.proofs.nodes.Nodes.uncount_link.Goals as goal

pub returns-clause-stored : goal.returns-clause-stored
returns-clause-stored c =
    let old = stored_of c.args.self.now in
    let one = c.counts-counts.result in
    let two = c.counts-counts-2.result in
    set_fewer old (stored_of c.set_counts.new.self) (stored_of c.set_counts-2.new.self) c.args.directory c.args.number one two c.counts-counts.ensures c.counts-counts-2.ensures
    (c.set_counts.ensures.stored ∙ ap (λ (n : ℕ). updated old c.args.directory (with_counts (record one { names = n }))) c.saturating_sub.ensures)
    (c.set_counts-2.ensures.stored ∙ ap (λ (n : ℕ). updated (stored_of c.set_counts.new.self) c.args.number (with_counts (record two { links = n }))) c.saturating_sub-2.ensures)
