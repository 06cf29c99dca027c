use Rattle.std.proofs.Common.{ℕ, List, refl, sym, ap, ◌∙◌, rules, subst}
use Rattle.std.specs.BTreeMap.{BTreeMap}
use Rattle.std.specs.Cmp.{nat_cmp_total}
use Rattle.std.specs.Ordering.{nat_cmp}
use Rattle.std.proofs.lemmas.Map.Lookups.{exact_unsigned}
use Rattle.std.proofs.lemmas.Result.{err_from_is_err_and}
use Rattle.sn_model.specs.Changes.{overwritten}
use Rattle.sn_model.specs.Tree.{Node}
use Rattle.sn_nodes.specs.declared.nodes.StoredNode.{StoredNode}
use Rattle.sn_nodes.specs.Stored.{nodes_of, stored_of, node_of, bytes_by, node_bytes_by}
use Rattle.sn_maps.proofs.MapLemmas.{updated-seen_by, none-seen_by, same-updated}
use Rattle.sn_nodes.specs.Tally.{IsTalliedIn}
use Rattle.sn_nodes.proofs.TallyLemmas.{tallied_alike}
use Rattle.sn_nodes.proofs.nodes.Nodes.write.Goals as goal

pub invariant_of-self : goal.invariant_of-self
invariant_of-self c = record { tallied = tallied_alike c.args.self.now.map.entries _ c.args.self.now.nameless c.args.number c.in-Some.node.now (_) c.in-Some.ensures.value ((c.get_mut.follows.holds _).3 (search rules)).0 refl c.args.self.now.tallied }

pub invariant_of-self-in_default : goal.invariant_of-self-in_default
invariant_of-self-in_default c = record { tallied = subst (λ (m : BTreeMap ℕ StoredNode). IsTalliedIn m.entries c.args.self.now.nameless) (sym c.get_mut.follows.holds-at-none) c.args.self.now.tallied }

pub returns-in_err-write-clause-same_nodes : goal.returns-in_err-write-clause-same_nodes
unfolding nodes_of
returns-in_err-write-clause-same_nodes c =
    let p = err_from_is_err_and c.from_residual.result c.from_residual.ensures.1 in
    rw (p.1) (updated-seen_by nat_cmp node_of nat_cmp_total exact_unsigned c.args.self.now.map.entries _ c.args.number c.in-Some.node.now _ (λ (n : Node). n) (sym c.in-Some.ensures.value) (ap (λ (bytes : List ℕ). record (node_of c.in-Some.node.now) { bytes = bytes }) (sym c.in_err-write.ensures.err)) ((c.get_mut.follows.holds _).3 (search rules)).0
    ∙ same-updated nat_cmp_total exact_unsigned _ _ (λ (n : Node). n) (λ _. refl))

pub returns-in_err-write-clause-same_stored : goal.returns-in_err-write-clause-same_stored
unfolding stored_of
returns-in_err-write-clause-same_stored c =
    let p = err_from_is_err_and c.from_residual.result c.from_residual.ensures.1 in
    rw (p.1) (updated-seen_by nat_cmp (λ (s : StoredNode). s) nat_cmp_total exact_unsigned c.args.self.now.map.entries _ c.args.number c.in-Some.node.now _ (λ (s : StoredNode). s) (sym c.in-Some.ensures.value) (ap (λ (bytes : List ℕ). record c.in-Some.node.now { bytes = bytes }) (sym c.in_err-write.ensures.err)) ((c.get_mut.follows.holds _).3 (search rules)).0
    ∙ same-updated nat_cmp_total exact_unsigned _ _ (λ (s : StoredNode). s) (λ _. refl))

pub returns-in_ok-write-clause-nodes : goal.returns-in_ok-write-clause-nodes
unfolding nodes_of
returns-in_ok-write-clause-nodes c =
    updated-seen_by nat_cmp node_of nat_cmp_total exact_unsigned c.args.self.now.map.entries _ c.args.number c.in-Some.node.now _ (node_bytes_by (λ (old : List ℕ). overwritten old c.args.offset c.args.bytes.now)) (sym c.in-Some.ensures.value) (ap (λ (bytes : List ℕ). record (node_of c.in-Some.node.now) { bytes = bytes }) (sym c.in_ok-write.ensures.ok)) ((c.get_mut.follows.holds _).3 (search rules)).0

pub returns-in_ok-write-clause-stored : goal.returns-in_ok-write-clause-stored
unfolding stored_of
returns-in_ok-write-clause-stored c =
    updated-seen_by nat_cmp (λ (s : StoredNode). s) nat_cmp_total exact_unsigned c.args.self.now.map.entries _ c.args.number c.in-Some.node.now _ (bytes_by (λ (old : List ℕ). overwritten old c.args.offset c.args.bytes.now)) (sym c.in-Some.ensures.value) (ap (λ (bytes : List ℕ). record c.in-Some.node.now { bytes = bytes }) (sym c.in_ok-write.ensures.ok)) ((c.get_mut.follows.holds _).3 (search rules)).0

pub returns-in_default-clause-nodes : goal.returns-in_default-clause-nodes
unfolding nodes_of
returns-in_default-clause-nodes c =
    none-seen_by nat_cmp node_of nat_cmp_total c.args.self.now.map.entries _ c.args.number (node_bytes_by (λ (old : List ℕ). overwritten old c.args.offset c.args.bytes.now)) (sym c.in_default.ensures.value) (ap (λ (m : BTreeMap ℕ StoredNode). m.entries) c.get_mut.follows.holds-at-none)

pub returns-in_default-clause-stored : goal.returns-in_default-clause-stored
unfolding stored_of
returns-in_default-clause-stored c =
    none-seen_by nat_cmp (λ (s : StoredNode). s) nat_cmp_total c.args.self.now.map.entries _ c.args.number (bytes_by (λ (old : List ℕ). overwritten old c.args.offset c.args.bytes.now)) (sym c.in_default.ensures.value) (ap (λ (m : BTreeMap ℕ StoredNode). m.entries) c.get_mut.follows.holds-at-none)
