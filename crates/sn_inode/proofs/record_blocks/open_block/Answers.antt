use Rattle.std.proofs.Common.{◌≡◌, ◌/◌, List, [], refl, sym, ap, subst, ◌∙◌}
use Rattle.std.proofs.lemmas.Result.{IfOk-weaker}
use Rattle.sn_device.specs.Disk.{reads}
use Rattle.sn_block.specs.Lending.{device_of}
use Rattle.sn_ondisk.specs.Trees.{store_of, data_block}
use Rattle.sn_tree.specs.Dirty.{IsFrom, block_after}
use Rattle.sn_tree.specs.declared.new_block.DirtyBlock.{DirtyBlock}
use Rattle.sn_inode.proofs.BlockLemmas.{pushed_here, pushed_other, from_front, clean_here}
use Rattle.sn_inode.proofs.record_blocks.open_block.Goals as goal

pub returns-in-Some-clause-bytes : goal.returns-in-Some-clause-bytes
returns-in-Some-clause-bytes g c = λ told.
    let keep = c.args.file.now.size / 4096 in
    let old = data_block (store_of (reads (g.D.Device.disk (device_of c.args.blocks.now)))) c.args.file.now c.args.index in
    let d : DirtyBlock = record { index = c.args.index; bytes = c.in-Some.bytes } in
    sym (ap (λ (ds : List DirtyBlock). block_after keep ds c.args.index old) c.in-Some.ensures.some ∙ pushed_here keep c.args.index c.take_last.new.dirty.items d old refl c.take_last.ensures.clean)

pub returns-in-Some-clause-others : goal.returns-in-Some-clause-others
returns-in-Some-clause-others g c = λ keep i bytes other.
    let d : DirtyBlock = record { index = c.args.index; bytes = c.in-Some.bytes } in
    sym (ap (λ (ds : List DirtyBlock). block_after keep ds i bytes) c.in-Some.ensures.some ∙ pushed_other keep i c.take_last.new.dirty.items d bytes other)

pub returns-in-Some-clause-rise : goal.returns-in-Some-clause-rise
returns-in-Some-clause-rise g c =
    let d : DirtyBlock = record { index = c.args.index; bytes = c.in-Some.bytes } in
    from_front 0 c.take_last.new.dirty.items d (subst (λ (ds : List DirtyBlock). IsFrom 0 ds) c.in-Some.ensures.some c.requires.rise)

pub returns-in-None-clause-bytes : goal.returns-in-None-clause-bytes
returns-in-None-clause-bytes g c = λ told.
    let keep = c.args.file.now.size / 4096 in
    let old = data_block (store_of (reads (g.D.Device.disk (device_of c.args.blocks.now)))) c.args.file.now c.args.index in
    let same : block_after keep [] c.args.index old ≡ block_after keep c.args.dirty.now.items c.args.index old =
    sym (clean_here keep c.args.index c.take_last.new.dirty.items old c.take_last.ensures.clean)
    ∙ ap (λ (ds : List DirtyBlock). block_after keep ds c.args.index old) (c.in-None.ensures.none refl) in
    IfOk-weaker c.copied.result _ _ (λ block is. is ∙ same) (c.copied.ensures.bytes told)
