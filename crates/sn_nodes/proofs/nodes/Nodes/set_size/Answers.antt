use Rattle.std.proofs.Common.{ℕ, List, sym, ap, rules, subst, refl}
use Rattle.std.specs.BTreeMap.{BTreeMap}
use Rattle.std.specs.Cmp.{nat_cmp_total}
use Rattle.std.specs.Ordering.{nat_cmp}
use Rattle.std.proofs.lemmas.Map.Lookups.{exact_unsigned}
use Rattle.sn_model.specs.Changes.{resized}
use Rattle.sn_nodes.specs.declared.nodes.StoredNode.{StoredNode}
use Rattle.sn_nodes.specs.Stored.{nodes_of, stored_of, node_of, bytes_by, node_bytes_by}
use Rattle.sn_maps.proofs.MapLemmas.{updated-seen_by, none-seen_by}
use Rattle.sn_nodes.specs.Tally.{IsTalliedIn}
use Rattle.sn_nodes.proofs.TallyLemmas.{tallied_alike}
use Rattle.sn_nodes.proofs.nodes.Nodes.set_size.Goals as goal

pub invariant_of-self : goal.invariant_of-self
invariant_of-self c = record { tallied = tallied_alike c.args.self.now.map.entries _ c.args.self.now.nameless c.args.number c.in-Some.node.now (_) c.in-Some.ensures.value ((c.get_mut.follows.holds _).3 (search rules)).0 refl c.args.self.now.tallied }

pub invariant_of-self-in_default : goal.invariant_of-self-in_default
invariant_of-self-in_default c = record { tallied = subst (λ (m : BTreeMap ℕ StoredNode). IsTalliedIn m.entries c.args.self.now.nameless) (sym c.get_mut.follows.holds-at-none) c.args.self.now.tallied }

pub returns-in-Some-clause-nodes : goal.returns-in-Some-clause-nodes
unfolding nodes_of
returns-in-Some-clause-nodes c =
    updated-seen_by nat_cmp node_of nat_cmp_total exact_unsigned c.args.self.now.map.entries _ c.args.number c.in-Some.node.now _ (node_bytes_by (λ (old : List ℕ). resized old c.args.size)) (sym c.in-Some.ensures.value) (ap (λ (bytes : List ℕ). record (node_of c.in-Some.node.now) { bytes = bytes }) (sym c.set_size.ensures)) ((c.get_mut.follows.holds _).3 (search rules)).0

pub returns-in-Some-clause-stored : goal.returns-in-Some-clause-stored
unfolding stored_of
returns-in-Some-clause-stored c =
    updated-seen_by nat_cmp (λ (s : StoredNode). s) nat_cmp_total exact_unsigned c.args.self.now.map.entries _ c.args.number c.in-Some.node.now _ (bytes_by (λ (old : List ℕ). resized old c.args.size)) (sym c.in-Some.ensures.value) (ap (λ (bytes : List ℕ). record c.in-Some.node.now { bytes = bytes }) (sym c.set_size.ensures)) ((c.get_mut.follows.holds _).3 (search rules)).0

pub returns-in_default-clause-stored : goal.returns-in_default-clause-stored
unfolding stored_of
returns-in_default-clause-stored c =
    none-seen_by nat_cmp (λ (s : StoredNode). s) nat_cmp_total c.args.self.now.map.entries _ c.args.number (bytes_by (λ (old : List ℕ). resized old c.args.size)) (sym c.in_default.ensures.value) (ap (λ (m : BTreeMap ℕ StoredNode). m.entries) c.get_mut.follows.holds-at-none)

pub returns-in_default-clause-nodes : goal.returns-in_default-clause-nodes
unfolding nodes_of
returns-in_default-clause-nodes c =
    none-seen_by nat_cmp node_of nat_cmp_total c.args.self.now.map.entries _ c.args.number (node_bytes_by (λ (old : List ℕ). resized old c.args.size)) (sym c.in_default.ensures.value) (ap (λ (m : BTreeMap ℕ StoredNode). m.entries) c.get_mut.follows.holds-at-none)
