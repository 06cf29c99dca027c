use Rattle.std.proofs.Common.{◌∙◌, ap, sym, arith, rules, Some}
use Rattle.sn_model.specs.Tree.{Tree}
use Rattle.sn_model.specs.Changes.{put_link}
use Rattle.sn_model.proofs.PartLemmas.{linked_is}
use Rattle.sn_plain.specs.Plain.{tree_of}
use Rattle.sn_nodes.specs.Stored.{stored_of}
use Rattle.sn_plain.specs.Stored.{tree_with}
use Rattle.sn_plain.proofs.CountedLemmas.{counted_tree}
use Rattle.sn_plain.proofs.MakingLemmas.{some_of, names_kept, links_kept, counted_linked}
use Rattle.sn_nodes.proofs.SeenLemmas.{seen}
use Rattle.sn_plain.proofs.tree.PlainTree.add_link.Goals as goal

pub count_link-requires-clause-names : goal.count_link-requires-clause-names
count_link-requires-clause-names c =
    let old = c.args.self.now in
    let few = c.can_link.ensures.names (search rules) in
    omega (arith, few, names_kept (stored_of old.nodes) (tree_of old) old.first old.counted c.args.link.directory)

pub count_link-requires-clause-links : goal.count_link-requires-clause-links
count_link-requires-clause-links c =
    let old = c.args.self.now in
    let few = c.can_link.ensures.links (search rules) in
    omega (arith, few, links_kept (stored_of old.nodes) (tree_of old) old.first old.counted c.args.number)

pub invariant_of-self : goal.invariant_of-self
invariant_of-self c =
    let old = c.args.self.now in
    let tree = tree_with c.count_link.new.self c.insert.new.self in
    let t = some_of _ (sym c.can_link.ensures.exact ∙ c.if-not-can_link.false) in
    let m = linked_is c.args.limits.now (tree_of old) c.args.link c.args.number t.0 t.1 in
    let counted = counted_linked c.args.limits.now (stored_of old.nodes) (stored_of c.count_link.new.self) (tree_of old) old.first (seen old.nodes) old.counted c.args.link c.args.number t.0 m c.count_link.ensures.stored in
    record { counted = counted_tree (stored_of c.count_link.new.self) (put_link (tree_of old) c.args.link c.args.number) tree old.first c.in-Ok.ensures.ok counted }

pub returns-in-Ok : goal.returns-in-Ok
returns-in-Ok c =
    let old = c.args.self.now in
    let t = some_of _ (sym c.can_link.ensures.exact ∙ c.if-not-can_link.false) in
    let m = linked_is c.args.limits.now (tree_of old) c.args.link c.args.number t.0 t.1 in
    t.1 ∙ ap (λ (x : Tree). Some x) (sym m.gives) ∙ (λ i. Some (record { nodes = sym c.count_link.ensures.nodes i; links = sym c.in-Ok.ensures.ok i }))
