use Rattle.std.proofs.Common.{◌/◌, List, [], ◌++◌, ◌∷◌, refl, sym, ap, subst, ◌∙◌, arith}
use Rattle.std.specs.Box.{with_value}
use Rattle.sn_device.specs.Disk.{reads}
use Rattle.sn_block.specs.Lending.{device_of}
use Rattle.sn_ondisk.specs.Trees.{store_of, data_block}
use Rattle.sn_tree.specs.Dirty.{IsFrom}
use Rattle.sn_tree.specs.declared.new_block.DirtyBlock.{DirtyBlock}
use Rattle.sn_inode.specs.Stored.{record_in}
use Rattle.sn_inode.proofs.BlockLemmas.{patched_at, from_push}
use Rattle.sn_inode.proofs.record_blocks.store_record.Goals as goal

pub returns-clause-patched : goal.returns-clause-patched
returns-clause-patched g c = λ told xs patched.
    let d : DirtyBlock = record { index = c.block_of-index.result; bytes = with_value c.in_ok-bytes.bytes c.put_record.new.block } in
    let made = c.push_back_reserved.ensures.items ∙ ap (λ (ds : List DirtyBlock). ds ++ d ∷ []) c.in_ok-reserve.ensures.items in
    patched_at (data_block (store_of (reads (g.D.Device.disk (device_of c.args.blocks.now)))) c.args.file.now) (c.args.file.now.size / 4096) xs c.args.stored.now c.args.dirty.now.items c.open_block.new.dirty.items c.push_back_reserved.new.self.items d c.in_ok-bytes.bytes.value
    c.block_of-index.result c.index_in_block-within.result c.block_of-index.ensures c.index_in_block-within.ensures.value refl made
    c.in_ok-bytes.ensures.clean (c.in_ok-bytes.ensures.bytes told) c.in_ok-bytes.ensures.others c.put_record.ensures.here
    (λ i other. c.put_record.ensures.others i other ∙ ap (record_in i) c.deref_mut.ensures.value) patched

pub returns-clause-rise : goal.returns-clause-rise
returns-clause-rise g c =
    let d : DirtyBlock = record { index = c.block_of-index.result; bytes = with_value c.in_ok-bytes.bytes c.put_record.new.block } in
    let made = c.push_back_reserved.ensures.items ∙ ap (λ (ds : List DirtyBlock). ds ++ d ∷ []) c.in_ok-reserve.ensures.items in
    subst (λ (ds : List DirtyBlock). IsFrom 0 ds) (sym made)
    (from_push 0 c.block_of-index.result c.open_block.new.dirty.items d refl (omega arith) c.in_ok-bytes.ensures.clean c.in_ok-bytes.ensures.rise)
