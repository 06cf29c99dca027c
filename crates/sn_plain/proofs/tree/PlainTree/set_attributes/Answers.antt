use Rattle.std.proofs.Common.{◌∙◌, ap, sym, subst, refl, Some}
use Rattle.std.specs.FinMap as map
use Rattle.sn_model.specs.Tree.{Tree}
use Rattle.sn_model.proofs.PartLemmas.{owned_is}
use Rattle.sn_nodes.specs.declared.nodes.StoredOwnership.{StoredOwnership}
use Rattle.sn_maps.specs.Maps.{updated, updated_at}
use Rattle.sn_plain.specs.Plain.{tree_of}
use Rattle.sn_nodes.specs.Stored.{nodes_of, stored_of, owned_by, with_ownership}
use Rattle.sn_plain.specs.Stored.{IsCounted, tree_with}
use Rattle.sn_plain.proofs.CountedLemmas.{Stored, counted_tree, counted_alike}
use Rattle.sn_plain.proofs.MakingLemmas.{some_of}
use Rattle.sn_plain.proofs.tree.PlainTree.set_attributes.Goals as goal

pub invariant_of-self-2 : goal.invariant_of-self-2
invariant_of-self-2 c =
    let old = c.args.self.now in
    let tree = tree_with c.set_ownership.new.self old.links in
    let alike = counted_alike (stored_of old.nodes) (tree_of old) old.first c.args.number (with_ownership c.in_ok-stored.field-0) (λ _. (refl, refl)) old.counted in
    record { counted = subst (λ (x : Stored). IsCounted x tree old.first) (sym c.set_ownership.ensures.stored) (counted_tree (updated (stored_of old.nodes) c.args.number (with_ownership c.in_ok-stored.field-0)) (tree_of old) tree old.first refl alike) }

pub returns : goal.returns
returns c =
    let old = c.args.self.now in
    let o = c.args.ownership.now in
    let t = some_of _ (sym c.can_own.ensures ∙ c.if-not-can_own.false) in
    let m = owned_is (tree_of old) c.args.number o t.0 t.1 in
    let there = ap (updated_at (nodes_of old.nodes) c.args.number (owned_by c.in_ok-stored.field-0)) m.there in
    let given = ap (λ (s : StoredOwnership). map.insert (nodes_of old.nodes) c.args.number (owned_by s m.node)) c.in_ok-stored.ensures in
    let nodes = c.set_ownership.ensures.nodes ∙ there ∙ given in
    t.1 ∙ ap (λ (x : Tree). Some x) (sym m.gives) ∙ (λ i. Some (record { nodes = sym nodes i; links = (tree_of old).links }))
