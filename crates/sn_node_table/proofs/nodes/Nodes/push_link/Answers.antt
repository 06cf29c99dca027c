use Rattle.std.proofs.Common.{ℕ, refl, sym, ap, ◌∙◌, rules}
use Rattle.std.specs.BTreeMap.{BTreeMap}
use Rattle.std.specs.Global.{Box}
use Rattle.std.specs.Cmp.{nat_cmp_total}
use Rattle.std.specs.Ordering.{nat_cmp}
use Rattle.std.proofs.lemmas.Map.Lookups.{exact_unsigned}
use Rattle.std.proofs.lemmas.Result.{IfErr-weaker, IfOk-weaker}
use Rattle.sn_node_table.specs.declared.node.StoredNode.{StoredNode}
use Rattle.sn_node_table.specs.Nodes.{Node, with_link}
use Rattle.sn_node_table.specs.Stored.{nodes_of, boxed_node_of, node_of}
use Rattle.sn_maps.proofs.MapLemmas.{updated-seen_by, none-seen_by, same-updated}
use Rattle.sn_node_table.proofs.nodes.Nodes.push_link.Goals as goal

pub returns-in-Some-clause-ok : goal.returns-in-Some-clause-ok
unfolding nodes_of
returns-in-Some-clause-ok c =
    IfOk-weaker c.push_link.result _ _ (λ _ put. updated-seen_by nat_cmp boxed_node_of nat_cmp_total exact_unsigned c.args.self.now.map.entries _ c.args.id c.in-Some.node.now _ (with_link c.args.link) (sym c.in-Some.ensures.value) (ap (λ (s : StoredNode). with_link c.args.link (node_of s)) (sym c.deref_mut.ensures.value) ∙ sym put) ((c.get_mut.follows.holds _).3 (search rules)).0) c.push_link.ensures.ok

pub returns-in-Some-clause-err : goal.returns-in-Some-clause-err
unfolding nodes_of
returns-in-Some-clause-err c =
    IfErr-weaker c.push_link.result _ _ (λ _ same. updated-seen_by nat_cmp boxed_node_of nat_cmp_total exact_unsigned c.args.self.now.map.entries _ c.args.id c.in-Some.node.now _ (λ (n : Node). n) (sym c.in-Some.ensures.value) (ap (λ (s : StoredNode). (node_of s)) (sym c.deref_mut.ensures.value) ∙ sym same) ((c.get_mut.follows.holds _).3 (search rules)).0
    ∙ same-updated nat_cmp_total exact_unsigned _ _ (λ (n : Node). n) (λ _. refl)) c.push_link.ensures.err

pub returns-in-None-clause-ok : goal.returns-in-None-clause-ok
unfolding nodes_of
returns-in-None-clause-ok c =
    none-seen_by nat_cmp boxed_node_of nat_cmp_total c.args.self.now.map.entries _ c.args.id (with_link c.args.link) (sym c.in-None.ensures.value) (ap (λ (m : BTreeMap ℕ (Box StoredNode)). m.entries) c.get_mut.follows.holds-at-none)
