use Rattle.std.proofs.Common.{◌≡◌, ℕ, List, take, refl, sym, ap, subst, ◌∙◌, IfOk}
use Rattle.sn_device.specs.Disk.{reads}
use Rattle.sn_block.specs.Lending.{device_of}
use Rattle.sn_ondisk.specs.Trees.{store_of}
use Rattle.sn_content.specs.Contents.{content_block}
use Rattle.sn_tree.specs.Dirty.{IsFrom}
use Rattle.sn_content.proofs.ContentLemmas.{first_cut, first_kept}
use Rattle.sn_content.proofs.inline.wanted_bytes.Goals as goal

pub returns-then-dirty-eq0-clause-bytes : goal.returns-then-dirty-eq0-clause-bytes
returns-then-dirty-eq0-clause-bytes g c told =
    let s = store_of (reads (g.D.Device.disk (device_of c.args.blocks.now))) in
    let dirty = c.args.dirty.now in
    let old = content_block s c.args.content.now 0 in
    let rise : IsFrom 1 dirty.blocks.items = c.in_default.ensures.none refl c.requires.rise in
    c.first_of-then-dirty-eq0.ensures.bytes ∙ ap (take dirty.size) (c.hole.ensures ∙ sym (first_cut dirty.blocks.items dirty.keep old c.if-dirty-eq0.true rise))

pub returns-clause-bytes : goal.returns-clause-bytes
returns-clause-bytes g c told =
    let s = store_of (reads (g.D.Device.disk (device_of c.args.blocks.now))) in
    let dirty = c.args.dirty.now in
    let old = content_block s c.args.content.now 0 in
    let rise : IsFrom 1 dirty.blocks.items = c.in_default.ensures.none refl c.requires.rise in
    subst (λ (block : List ℕ). IfOk c.first_bytes.result (λ bytes. bytes ≡ take dirty.size block)) (sym (first_kept dirty.blocks.items dirty.keep old c.if-dirty-eq0.false rise)) (c.first_bytes.ensures.bytes told)
