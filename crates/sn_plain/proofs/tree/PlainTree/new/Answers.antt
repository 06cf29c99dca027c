use Rattle.std.proofs.Common.{◌≡◌, ◌∙◌, ap, sym, subst, is_some}
use Rattle.std.specs.Ordering.{nat_cmp}
use Rattle.std.specs.Cmp.{nat_cmp_total}
use Rattle.std.specs.FinMap as map
use Rattle.sn_model.specs.Tree.{Tree}
use Rattle.sn_model.proofs.MapLemmas.{get_inserted}
use Rattle.sn_nodes.specs.Stored.{stored_of}
use Rattle.sn_plain.specs.Stored.{IsCounted, tree_with}
use Rattle.sn_plain.proofs.CountedLemmas.{Stored, counted_none, counted_node, counted_use}
use Rattle.sn_plain.proofs.tree.PlainTree.new.Goals as goal

pub invariant_of-result : goal.invariant_of-result
invariant_of-result c =
    let tree : Tree = tree_with c.insert.new.self c.new.result in
    let root = c.in_ok-new_root.field-0 in
    let none = counted_none tree c.new.ensures in
    let first : Stored = map.empty in
    let alone = counted_node first tree 2 2 root (none.no_names 2 (map.get-empty nat_cmp 2)) (none.no_links 2 (map.get-empty nat_cmp 2)) c.in_ok-new_root.ensures.fresh.0 c.in_ok-new_root.ensures.fresh.1 none in
    let stored : stored_of c.insert.new.self ≡ map.insert first 2 root = c.in_ok-insert.ensures.stored ∙ ap (λ (m : Stored). map.insert m 2 root) c.new-nodes.ensures.stored in
    let there = ap is_some (get_inserted nat_cmp_total first 2 root) in
    record { counted = subst (λ (m : Stored). IsCounted m tree 3) (sym stored) (counted_use (map.insert first 2 root) tree 2 2 there alone) }
