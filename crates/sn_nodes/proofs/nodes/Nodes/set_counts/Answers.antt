use Rattle.std.proofs.Common.{ℕ, refl, sym, ap, ◌∙◌, rules, subst, arith}
use Rattle.std.specs.BTreeMap.{BTreeMap}
use Rattle.std.specs.Cmp.{nat_cmp_total}
use Rattle.std.specs.Ordering.{nat_cmp}
use Rattle.std.proofs.lemmas.Map.Lookups.{exact_unsigned}
use Rattle.sn_model.specs.Tree.{Node}
use Rattle.sn_nodes.specs.declared.nodes.StoredNode.{StoredNode}
use Rattle.sn_maps.specs.Maps.{seen_by}
use Rattle.sn_nodes.specs.Stored.{nodes_of, stored_of, node_of, with_counts}
use Rattle.sn_maps.proofs.MapLemmas.{updated-seen_by, none-seen_by, same-updated}
use Rattle.sn_nodes.specs.Tally.{IsTalliedIn}
use Rattle.sn_nodes.proofs.TallyLemmas.{counted_found, few, once_at_most, tallied_written}
use Rattle.sn_nodes.proofs.nodes.Nodes.set_counts.Goals as goal

pub overflow_add-self : goal.overflow_add-self
overflow_add-self c = omega (arith, few _ _ c.args.self.now.tallied, once_at_most (record c.in-Some.node.now { counts = c.args.counts }), c.nameless-added.ensures)

pub overflow_sub-self : goal.overflow_sub-self
overflow_sub-self c = omega (arith, c.nameless-gone.ensures, counted_found _ _ c.args.number c.in-Some.node.now c.in-Some.ensures.value c.args.self.now.tallied)

pub invariant_of-self : goal.invariant_of-self
invariant_of-self c = record { tallied = tallied_written c.args.self.now.map.entries _ c.args.self.now.nameless _ c.args.number c.in-Some.node.now (record c.in-Some.node.now { counts = c.args.counts }) c.in-Some.ensures.value ((c.get_mut.follows.holds _).3 (search rules)).0 c.args.self.now.tallied (omega (arith, c.nameless-added.ensures, c.nameless-gone.ensures)) }

pub invariant_of-self-in_default : goal.invariant_of-self-in_default
invariant_of-self-in_default c = record { tallied = subst (λ (m : BTreeMap ℕ StoredNode). IsTalliedIn m.entries c.args.self.now.nameless) (sym c.get_mut.follows.holds-at-none) c.args.self.now.tallied }

pub returns-in-Some-clause-nodes : goal.returns-in-Some-clause-nodes
unfolding nodes_of
returns-in-Some-clause-nodes c =
    updated-seen_by nat_cmp node_of nat_cmp_total exact_unsigned c.args.self.now.map.entries _ c.args.number c.in-Some.node.now _ (λ (n : Node). n) (sym c.in-Some.ensures.value) refl ((c.get_mut.follows.holds _).3 (search rules)).0
    ∙ same-updated nat_cmp_total exact_unsigned _ _ (λ (n : Node). n) (λ _. refl)

pub returns-in-Some-clause-stored : goal.returns-in-Some-clause-stored
unfolding stored_of
returns-in-Some-clause-stored c =
    updated-seen_by nat_cmp (λ (s : StoredNode). s) nat_cmp_total exact_unsigned c.args.self.now.map.entries _ c.args.number c.in-Some.node.now _ (with_counts c.args.counts) (sym c.in-Some.ensures.value) refl ((c.get_mut.follows.holds _).3 (search rules)).0

pub returns-in_default-clause-stored : goal.returns-in_default-clause-stored
unfolding stored_of
returns-in_default-clause-stored c =
    none-seen_by nat_cmp (λ (s : StoredNode). s) nat_cmp_total c.args.self.now.map.entries _ c.args.number (with_counts c.args.counts) (sym c.in_default.ensures.value) (ap (λ (m : BTreeMap ℕ StoredNode). m.entries) c.get_mut.follows.holds-at-none)

pub returns-in_default-clause-nodes : goal.returns-in_default-clause-nodes
unfolding nodes_of
returns-in_default-clause-nodes c = ap (λ (m : BTreeMap ℕ StoredNode). seen_by nat_cmp node_of m.entries) c.get_mut.follows.holds-at-none
