use Rattle.std.proofs.Common.{◌≡◌, ℕ, inr, List, Option, None, Some, is_some, IfOk, refl, sym, ap, subst, ◌∙◌, true≢false}
use Rattle.sn_image.specs.Image.{image}
use Rattle.sn_live_world.specs.Restored.{IsRestored}
use Rattle.sn_model.specs.Tree.{Tree}
use Rattle.sn_rooted.specs.Roots.{file_in, store_on}
use Rattle.sn_rooted_tree.proofs.FrozenLemmas.{frozen_sound, frozen_tree, none_frozen}
use Rattle.sn_walk.specs.declared.object.Home.TheVariants.{Frozen}
use Rattle.sn_live_world.proofs.restoring.prepare_restore.Goals as goal

pub returns-in_default-clause-counts : goal.returns-in_default-clause-counts
returns-in_default-clause-counts g c = inr (
  refl,
  λ told.
      let looked_up = c.file_in.ensures ∙ ap (λ (name : List ℕ). file_in c.args.root.now (Frozen name)) c.copy.ensures in
      true≢false (sym (c.requires.there told) ∙ ap is_some (none_frozen (store_on c.args.blocks.now) c.args.root.now c.args.name.now c.file_in.result looked_up c.in_default.is)),
)

pub settled_over-requires : goal.settled_over-requires
settled_over-requires g c = record {
  sound = λ told.
      let sound = c.requires.readable told in
      let looked_up = c.file_in.ensures ∙ ap (λ (name : List ℕ). file_in c.args.root.now (Frozen name)) c.copy.ensures in
      frozen_sound (store_on c.args.blocks.now) c.args.root.now c.args.name.now c.file_in.result looked_up c.in-Some.file c.in-Some.is _ sound.live sound.frozen;
}

-- the tree that a look-up answers is the one that is there
same_tree : (o : Option Tree) (tree frozen : Tree) → o ≡ Some tree → o ≡ Some frozen → tree ≡ frozen
same_tree None tree frozen e f = cc
same_tree (Some t) tree frozen e f = cc

pub returns-clause-restores : goal.returns-clause-restores
returns-clause-restores g c told frozen e =
    let s = store_on c.args.blocks.now in
    let looked_up = c.file_in.ensures ∙ ap (λ (name : List ℕ). file_in c.args.root.now (Frozen name)) c.copy.ensures in
    let there = frozen_tree s c.args.root.now c.args.name.now c.file_in.result looked_up c.in-Some.file c.in-Some.is in
    subst (λ (t : Tree). IfOk c.settled_over.result (λ restored. IsRestored restored t)) (same_tree _ (image s c.in-Some.file) frozen there e) (c.settled_over.ensures.restores told)
