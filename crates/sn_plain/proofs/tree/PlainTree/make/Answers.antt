use Rattle.std.proofs.Common.{◌≡◌, ◌∙◌, ap, sym, subst, arith, rules, Some}
use Rattle.std.specs.Option.{option_map}
use Rattle.std.specs.Ordering.{nat_cmp}
use Rattle.std.specs.Cmp.{nat_cmp_total}
use Rattle.std.specs.FinMap as map
use Rattle.std.proofs.lemmas.Map.Lookups.{exact_unsigned}
use Rattle.sn_model.specs.Tree.{Node, Tree}
use Rattle.sn_model.specs.Changes.{put_link}
use Rattle.sn_model.proofs.PartLemmas.{made_is}
use Rattle.sn_maps.specs.Maps.{restored}
use Rattle.sn_plain.specs.Plain.{tree_of}
use Rattle.sn_nodes.specs.Stored.{Recounts, counts_of, more_at, node_of, nodes_of, stored_of}
use Rattle.sn_plain.specs.Stored.{IsCounted, tree_with}
use Rattle.sn_plain.proofs.CountedLemmas.{Stored, after_use, counted_tree}
use Rattle.sn_plain.proofs.MakingLemmas.{some_of, names_made, links_made, counted_made}
use Rattle.sn_maps.proofs.MapLemmas.{restored-insert}
use Rattle.sn_nodes.proofs.SeenLemmas.{seen}
use Rattle.sn_plain.proofs.tree.PlainTree.make.Goals as goal

pub count_link-requires-clause-names : goal.count_link-requires-clause-names
count_link-requires-clause-names c =
    let old = c.args.self.now in
    let t = some_of _ (sym c.can_make.ensures.exact ∙ c.if-not-can_make.false) in
    let m = made_is c.args.limits.now (tree_of old) c.args.link c.args.number c.args.kind c.args.ownership.now t.0 t.1 in
    let few = c.can_make.ensures.names (search rules) in
    let n = ap (λ (x : Stored). (counts_of (map.get x c.args.link.directory)).names) c.in_ok-old.ensures.stored ∙ names_made (stored_of old.nodes) (tree_of old) old.first (seen old.nodes) old.counted c.args.limits.now c.args.link c.args.number c.args.kind c.args.ownership.now t.0 m c.in_ok-node.node c.in_ok-node.ensures.fresh in
    omega (arith, n, few)

pub count_link-requires-clause-links : goal.count_link-requires-clause-links
count_link-requires-clause-links c =
    let old = c.args.self.now in
    let t = some_of _ (sym c.can_make.ensures.exact ∙ c.if-not-can_make.false) in
    let m = made_is c.args.limits.now (tree_of old) c.args.link c.args.number c.args.kind c.args.ownership.now t.0 t.1 in
    let n = ap (λ (x : Stored). (counts_of (map.get x c.args.number)).links) c.in_ok-old.ensures.stored ∙ links_made (stored_of old.nodes) (tree_of old) old.first (seen old.nodes) old.counted c.args.limits.now c.args.link c.args.number c.args.kind c.args.ownership.now t.0 m c.in_ok-node.node c.in_ok-node.ensures.fresh in
    omega (arith, n)

pub invariant_of-self-in-Ok : goal.invariant_of-self-in-Ok
invariant_of-self-in-Ok c =
    let old = c.args.self.now in
    let t = some_of _ (sym c.can_make.ensures.exact ∙ c.if-not-can_make.false) in
    let m = made_is c.args.limits.now (tree_of old) c.args.link c.args.number c.args.kind c.args.ownership.now t.0 t.1 in
    let r = subst (λ (x : Stored). Recounts (more_at c.args.link.directory) (more_at c.args.number) x (stored_of c.count_link.new.self)) c.in_ok-old.ensures.stored c.count_link.ensures.stored in
    let counted = counted_made (stored_of old.nodes) (tree_of old) old.first (seen old.nodes) old.counted c.args.limits.now c.args.link c.args.number c.args.kind c.args.ownership.now t.0 m c.in_ok-node.node c.in_ok-node.ensures.fresh (stored_of c.count_link.new.self) c.in_ok-node.ensures.parent r in
    record { counted = subst (IsCounted (stored_of c.count_link.new.self) (tree_with c.count_link.new.self c.insert-2.new.self)) (sym c.after_use-self.ensures) (counted_tree (stored_of c.count_link.new.self) (put_link (tree_of old) c.args.link c.args.number) (tree_with c.count_link.new.self c.insert-2.new.self) (after_use old.first c.args.number) c.in-Ok.ensures.ok counted) }

pub returns-in-Ok : goal.returns-in-Ok
returns-in-Ok c =
    let old = c.args.self.now in
    let t = some_of _ (sym c.can_make.ensures.exact ∙ c.if-not-can_make.false) in
    let m = made_is c.args.limits.now (tree_of old) c.args.link c.args.number c.args.kind c.args.ownership.now t.0 t.1 in
    let nodes = c.count_link.ensures.nodes ∙ c.in_ok-old.ensures.nodes ∙ ap (map.insert (nodes_of old.nodes) c.args.number) c.in_ok-node.ensures.node in
    t.1 ∙ ap (λ (x : Tree). Some x) (sym m.gives) ∙ (λ i. Some (record { nodes = sym nodes i; links = sym c.in-Ok.ensures.ok i }))

pub invariant_of-self-in-Err : goal.invariant_of-self-in-Err
invariant_of-self-in-Err c =
    let old = c.args.self.now in
    let m = stored_of old.nodes in
    let back : stored_of c.put_back.new.self ≡ m = c.put_back.ensures.stored ∙ ap (λ (x : Stored). restored x c.args.number c.in_ok-old.old) c.in_ok-old.ensures.stored ∙ restored-insert nat_cmp_total exact_unsigned m c.args.number c.in_ok-node.node c.in_ok-old.old (sym c.in_ok-old.ensures.old) in
    record { counted = subst (λ (x : Stored). IsCounted x (tree_with c.put_back.new.self c.insert-2.new.self) old.first) (sym back) (counted_tree m (tree_of old) (tree_with c.put_back.new.self c.insert-2.new.self) old.first c.in-Err.ensures.err old.counted) }

pub returns-in-Err : goal.returns-in-Err
returns-in-Err c =
    let old = c.args.self.now in
    let n = nodes_of old.nodes in
    let was : map.get n c.args.number ≡ option_map node_of c.in_ok-old.old = seen old.nodes c.args.number ∙ ap (option_map node_of) (sym c.in_ok-old.ensures.old) in
    let back : nodes_of c.put_back.new.self ≡ n = c.put_back.ensures.nodes ∙ ap (λ (x : map.FinMap nat_cmp Node). restored x c.args.number (option_map node_of c.in_ok-old.old)) c.in_ok-old.ensures.nodes ∙ restored-insert nat_cmp_total exact_unsigned n c.args.number (node_of c.in_ok-node.node) (option_map node_of c.in_ok-old.old) was in
    λ i. record { nodes = back i; links = c.in-Err.ensures.err i }
