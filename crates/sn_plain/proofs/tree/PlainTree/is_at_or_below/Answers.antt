use Rattle.std.proofs.Common.{◌≡◌, ◌≢◌, ℕ, ◌<◌, sym, ap, subst, ◌∙◌}
use Rattle.std.specs.FinMap as map
use Rattle.std.proofs.Math.Logic.{∥∥₁_elim}
use Rattle.std.proofs.Props.{props}
use Rattle.sn_limits.specs.declared.kind.Kind.TheVariants.{Directory}
use Rattle.sn_model.specs.Changes.{is_at_or_below}
use Rattle.sn_model.specs.NameTree.{HasKind}
use Rattle.sn_model.specs.Tree.{names_for}
use Rattle.sn_nodes.specs.declared.nodes.Counts.{Counts}
use Rattle.sn_plain.specs.Plain.{tree_of}
use Rattle.sn_nodes.specs.Stored.{counts_of, stored_of}
use Rattle.sn_plain.proofs.MakingLemmas.{links_kept}
use Rattle.sn_nodes.proofs.SeenLemmas.{seen}
use Rattle.sn_plain.proofs.WayLemmas.{below_itself, below_none, below_parent, by_test, fewer_steps, parent_is, passes_test, steps_up}
use Rattle.sn_plain.proofs.tree.PlainTree.is_at_or_below.Goals as goal

pub returns-then-counts-eq0 : goal.returns-then-counts-eq0
returns-then-counts-eq0 c =
    let old = c.args.self.now in
    let now = c.loop-current.current in
    let none : names_for (tree_of old) now ≡ 0 = sym (links_kept (stored_of old.nodes) (tree_of old) old.first old.counted now) ∙ ap (λ (x : Counts). x.links) (sym c.counts-counts.ensures) ∙ c.if-counts-eq0.true in
    ∥∥₁_elim c.requires.whole (search props) (λ whole. sym (below_none (stored_of old.nodes) (tree_of old) old.first (seen old.nodes) old.counted whole c.args.top now c.loop-current.invariant.kind none c.loop-current-test.true) ∙ c.loop-current.invariant.rest)

pub loop-current-smaller : goal.loop-current-smaller
loop-current-smaller c =
    let old = c.args.self.now in
    let tree = tree_of old in
    let now = c.loop-current.current in
    let some : names_for tree now ≢ 0 = λ z. c.if-counts-eq0.false (ap (λ (x : Counts). x.links) c.counts-counts.ensures ∙ links_kept (stored_of old.nodes) tree old.first old.counted now ∙ z) in
    let parent : c.counts-counts.result.parent ≡ (counts_of (map.get (stored_of old.nodes) now)).parent = ap (λ (x : Counts). x.parent) c.counts-counts.ensures in
    let steps : ℕ → ℕ = steps_up (stored_of old.nodes) (map.len tree.links) in
    ∥∥₁_elim c.requires.whole (search props) (λ whole. subst (λ (p : ℕ). steps p < steps now) (sym parent) (fewer_steps (stored_of old.nodes) tree old.first (seen old.nodes) old.counted whole now c.loop-current.invariant.kind some))

pub loop-current-preserved : goal.loop-current-preserved
loop-current-preserved c =
    let old = c.args.self.now in
    let tree = tree_of old in
    let now = c.loop-current.current in
    let kind = c.loop-current.invariant.kind in
    let some : names_for tree now ≢ 0 = λ z. c.if-counts-eq0.false (ap (λ (x : Counts). x.links) c.counts-counts.ensures ∙ links_kept (stored_of old.nodes) tree old.first old.counted now ∙ z) in
    let parent : c.counts-counts.result.parent ≡ (counts_of (map.get (stored_of old.nodes) now)).parent = ap (λ (x : Counts). x.parent) c.counts-counts.ensures in
    record {
      rest = ∥∥₁_elim c.requires.whole (search props) (λ whole. ap (λ (p : ℕ). is_at_or_below tree c.args.top p) parent ∙ below_parent (stored_of old.nodes) tree old.first (seen old.nodes) old.counted whole c.args.top now kind c.loop-current-test.true some ∙ c.loop-current.invariant.rest);
      kind = by_test _ (∥∥₁_elim c.requires.whole (search props) (λ whole. passes_test _ (subst (λ (k : ℕ). HasKind tree k Directory) (sym parent) (parent_is (stored_of old.nodes) tree old.first (seen old.nodes) old.counted whole now kind some))));
    }

pub returns : goal.returns
returns c =
    let old = c.args.self.now in
    ∥∥₁_elim c.requires.whole (search props) (λ whole. sym (below_itself (stored_of old.nodes) (tree_of old) old.first (seen old.nodes) old.counted whole c.args.top c.loop-current.current c.loop-current.invariant.kind c.loop-current-test.false) ∙ c.loop-current.invariant.rest)
