use Rattle.std.proofs.Common.{◌≡◌, ℕ, List, sym, subst, ◌∙◌, arith, IsTrue}
use Rattle.std.proofs.lemmas.Result.{on_ok_weaker}
use Rattle.sn_device.specs.Disk.{reads}
use Rattle.sn_block.specs.Lending.{device_of}
use Rattle.sn_image.specs.Contents.{content_reach}
use Rattle.sn_layout_node.specs.declared.content.Content.{Content}
use Rattle.sn_ondisk.specs.Trees.{store_of, all_pointers}
use Rattle.sn_content.specs.Contents.{IsReleased}
use Rattle.sn_tree.specs.Steps.{LeadsOutsideAt}
use Rattle.sn_content.proofs.ContentLemmas.{cut_released}
use Rattle.sn_tree.proofs.ReplannedLemmas.{tree_outside}
use Rattle.sn_content.proofs.contents.release_all.Goals as goal

pub returns-in-Tree-clause-released : goal.returns-in-Tree-clause-released
returns-in-Tree-clause-released g c =
    let Told = IsTrue g.D.Device.tells_bytes in
    let s = store_of (reads (g.D.Device.disk (device_of c.args.blocks.now))) in
    let tree = c.in-Tree.tree in
    let pointers : c.copy_from_slice.new.self ≡ tree.pointers = c.copy_from_slice.ensures.after ∙ c.as_slice.ensures.value in
    on_ok_weaker c.release_pointers.result
    (λ cut. subst (λ (x : Content). IsReleased Told s x c.args.build.now c.release_pointers.new.build) (sym c.in-Tree.is)
    (cut_released Told s tree c.levels_of.result c.copy_from_slice.new.self c.args.build.now c.release_pointers.new.build c.levels_of.ensures.value pointers cut))
    c.release_pointers.ensures.cut

pub returns-in-Tree-clause-damaged : goal.returns-in-Tree-clause-damaged
returns-in-Tree-clause-damaged g c told block is =
    let sectors = (g.D.Device.status (device_of c.args.blocks.now)).sectors in
    let s = store_of (reads (g.D.Device.disk (device_of c.args.blocks.now))) in
    let tree = c.in-Tree.tree in
    let pointers : c.copy_from_slice.new.self ≡ tree.pointers = c.copy_from_slice.ensures.after ∙ c.as_slice.ensures.value in
    subst (λ (x : Content). LeadsOutsideAt sectors (content_reach s x) block) (sym c.in-Tree.is)
    (tree_outside s tree sectors
    (subst (λ (n : ℕ). LeadsOutsideAt sectors (all_pointers s n tree.pointers) block) c.levels_of.ensures.value
    (subst (λ (ps : List ℕ). LeadsOutsideAt sectors (all_pointers s c.levels_of.result ps) block) pointers (c.release_pointers.ensures.damaged told block is))))

pub returns-in-Tree-clause-full : goal.returns-in-Tree-clause-full
returns-in-Tree-clause-full g c = λ is. omega (arith, c.release_pointers.ensures.full is, c.bound.ensures.added)
