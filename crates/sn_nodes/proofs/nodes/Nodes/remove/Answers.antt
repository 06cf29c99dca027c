use Rattle.std.proofs.Common.{ap, sym, ◌∙◌, arith}
use Rattle.std.specs.Ordering.{nat_cmp}
use Rattle.std.specs.Cmp.{nat_cmp_total}
use Rattle.std.proofs.lemmas.Map.Lookups.{exact_unsigned}
use Rattle.sn_nodes.specs.declared.nodes.StoredNode.{StoredNode}
use Rattle.sn_nodes.specs.Stored.{nodes_of, stored_of, node_of}
use Rattle.sn_nodes.specs.Tally.{bare_at}
use Rattle.sn_maps.proofs.MapLemmas.{get-seen_plain, remove-seen_by}
use Rattle.sn_nodes.proofs.TallyLemmas.{counted_at, tallied_removed}
use Rattle.sn_nodes.proofs.nodes.Nodes.remove.Goals as goal

pub overflow_sub-self : goal.overflow_sub-self
overflow_sub-self c =
    let gone = ap bare_at (c.remove-old.ensures.value ∙ sym (get-seen_plain nat_cmp nat_cmp_total c.args.self.now.map.entries c.args.number)) in
    omega (arith, c.nameless_at.ensures, gone, counted_at _ _ c.args.number c.args.self.now.tallied)

pub invariant_of-self : goal.invariant_of-self
invariant_of-self c =
    let es = c.args.self.now.map.entries in
    let gone = ap bare_at (c.remove-old.ensures.value ∙ sym (get-seen_plain nat_cmp nat_cmp_total es c.args.number)) in
    let taken = remove-seen_by nat_cmp (λ (s : StoredNode). s) nat_cmp_total exact_unsigned es c.remove-old.new.self.entries c.args.number c.remove-old.ensures.updates.0 in
    record { tallied = tallied_removed _ _ c.args.self.now.nameless _ c.args.number taken c.args.self.now.tallied (omega (arith, c.nameless_at.ensures, gone)) }

pub returns-clause-nodes : goal.returns-clause-nodes
unfolding nodes_of
returns-clause-nodes c = remove-seen_by nat_cmp node_of nat_cmp_total exact_unsigned c.args.self.now.map.entries c.remove-old.new.self.entries c.args.number c.remove-old.ensures.updates.0

pub returns-clause-stored : goal.returns-clause-stored
unfolding stored_of
returns-clause-stored c = remove-seen_by nat_cmp (λ (s : StoredNode). s) nat_cmp_total exact_unsigned c.args.self.now.map.entries c.remove-old.new.self.entries c.args.number c.remove-old.ensures.updates.0
