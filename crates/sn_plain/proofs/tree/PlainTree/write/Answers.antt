use Rattle.std.proofs.Common.{List, ℕ, ap, sym, refl, ◌∙◌, Some}
use Rattle.sn_model.specs.Changes.{overwritten}
use Rattle.sn_model.specs.Tree.{Tree}
use Rattle.sn_model.proofs.PartLemmas.{written_is, file_is}
use Rattle.sn_maps.specs.Maps.{updated_at}
use Rattle.sn_plain.specs.Plain.{tree_of}
use Rattle.sn_nodes.specs.Stored.{nodes_of, stored_of, node_bytes_by}
use Rattle.sn_plain.specs.Stored.{tree_with}
use Rattle.sn_plain.proofs.MakingLemmas.{some_of}
use Rattle.sn_plain.proofs.WritingLemmas.{counted_written}
use Rattle.sn_plain.proofs.tree.PlainTree.write.Goals as goal

pub invariant_of-self : goal.invariant_of-self
invariant_of-self c =
    let old = c.args.self.now in
    record { counted = counted_written c.write.result (stored_of old.nodes) (stored_of c.write.new.self) (tree_of old) (tree_with c.write.new.self old.links) old.first c.args.number (λ (b : List ℕ). overwritten b c.args.offset c.args.bytes.now) refl old.counted c.write.ensures.stored c.write.ensures.same_stored }

pub returns : goal.returns
returns c =
    let old = c.args.self.now in
    let t = some_of _ (sym c.can_write.ensures.exact ∙ c.if-not-can_write.false) in
    let m = written_is c.args.limits.now (tree_of old) c.args.number c.args.offset c.args.bytes.now t.0 t.1 in
    let there = ap (updated_at (nodes_of old.nodes) c.args.number (node_bytes_by (λ (b : List ℕ). overwritten b c.args.offset c.args.bytes.now))) (file_is (tree_of old) c.args.number m.node m.file).0 in
    let nodes = c.in_ok-write.ensures.nodes ∙ there in
    t.1 ∙ ap (λ (x : Tree). Some x) (sym m.gives) ∙ (λ i. Some (record { nodes = sym nodes i; links = (tree_of old).links }))
