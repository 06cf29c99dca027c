use Rattle.std.proofs.Common.{ℕ, List, ap, subst, ◌∙◌, sym, arith}
use Rattle.std.specs.Cmp.{nat_cmp_total}
use Rattle.std.specs.Ordering.{nat_cmp}
use Rattle.std.proofs.lemmas.Map.Lookups.{exact_unsigned}
use Rattle.std.proofs.lemmas.Result.{err_from_is_err_and}
use Rattle.sn_nodes.specs.declared.nodes.StoredNode.{StoredNode}
use Rattle.sn_nodes.specs.Stored.{nodes_of, stored_of, node_of}
use Rattle.sn_maps.specs.Maps.{seen_by}
use Rattle.sn_maps.proofs.MapLemmas.{insert-seen_by, get-seen_plain}
use Rattle.sn_nodes.specs.Tally.{IsTalliedIn, bare_at}
use Rattle.sn_nodes.proofs.TallyLemmas.{counted_at, few, once_at_most, tallied_inserted}
use Rattle.sn_nodes.proofs.nodes.Nodes.insert.Goals as goal

pub invariant_of-self : goal.invariant_of-self
invariant_of-self c = record { tallied = subst (λ (es : List (ℕ × StoredNode)). IsTalliedIn es c.args.self.now.nameless) (sym c.in_err-old.ensures.err) c.args.self.now.tallied }

pub overflow_add-self : goal.overflow_add-self
overflow_add-self c = omega (arith, few _ _ c.args.self.now.tallied, once_at_most c.args.node, c.nameless-added.ensures)

pub overflow_sub-self : goal.overflow_sub-self
overflow_sub-self c =
    let gone = ap bare_at (c.in_ok-old.ensures.old ∙ sym (get-seen_plain nat_cmp nat_cmp_total c.args.self.now.map.entries c.args.number)) in
    omega (arith, c.nameless_at.ensures, gone, counted_at _ _ c.args.number c.args.self.now.tallied)

pub invariant_of-self-2 : goal.invariant_of-self-2
invariant_of-self-2 c =
    let es = c.args.self.now.map.entries in
    let gone = ap bare_at (c.in_ok-old.ensures.old ∙ sym (get-seen_plain nat_cmp nat_cmp_total es c.args.number)) in
    let put = insert-seen_by nat_cmp (λ (s : StoredNode). s) nat_cmp_total exact_unsigned es c.insert.new.self.entries c.args.number c.args.node c.in_ok-old.ensures.updates.0 in
    record { tallied = tallied_inserted _ _ c.args.self.now.nameless _ c.args.number c.args.node put (omega (arith, c.ranges.number.fits)) c.args.self.now.tallied (omega (arith, c.nameless-added.ensures, c.nameless_at.ensures, gone)) }

pub returns-in_err-old-clause-same_nodes : goal.returns-in_err-old-clause-same_nodes
unfolding nodes_of
returns-in_err-old-clause-same_nodes c =
    let p = err_from_is_err_and c.from_residual.result c.from_residual.ensures.1 in
    rw (p.1) (ap (seen_by nat_cmp node_of) c.in_err-old.ensures.err)

pub returns-in_err-old-clause-same_stored : goal.returns-in_err-old-clause-same_stored
unfolding stored_of
returns-in_err-old-clause-same_stored c =
    let p = err_from_is_err_and c.from_residual.result c.from_residual.ensures.1 in
    rw (p.1) (ap (seen_by nat_cmp (λ (s : StoredNode). s)) c.in_err-old.ensures.err)

pub returns-in_err-old-clause-absent : goal.returns-in_err-old-clause-absent
unfolding stored_of
returns-in_err-old-clause-absent c =
    let p = err_from_is_err_and c.from_residual.result c.from_residual.ensures.1 in
    rw (p.1) (get-seen_plain nat_cmp nat_cmp_total c.args.self.now.map.entries c.args.number ∙ c.in_err-old.ensures.absent)

pub returns-clause-nodes : goal.returns-clause-nodes
unfolding nodes_of
returns-clause-nodes c = insert-seen_by nat_cmp node_of nat_cmp_total exact_unsigned c.args.self.now.map.entries c.insert.new.self.entries c.args.number c.args.node c.in_ok-old.ensures.updates.0

pub returns-clause-stored : goal.returns-clause-stored
unfolding stored_of
returns-clause-stored c = insert-seen_by nat_cmp (λ (s : StoredNode). s) nat_cmp_total exact_unsigned c.args.self.now.map.entries c.insert.new.self.entries c.args.number c.args.node c.in_ok-old.ensures.updates.0

pub returns-clause-old : goal.returns-clause-old
unfolding stored_of
returns-clause-old c = c.in_ok-old.ensures.old ∙ sym (get-seen_plain nat_cmp nat_cmp_total c.args.self.now.map.entries c.args.number)
