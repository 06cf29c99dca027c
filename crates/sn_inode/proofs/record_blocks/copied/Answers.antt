use Rattle.std.proofs.Common.{◌≡◌, replicate, refl, sym, ◌∙◌}
use Rattle.sn_device.specs.Disk.{reads}
use Rattle.sn_block.specs.Lending.{device_of, fetched_number}
use Rattle.sn_layout.specs.Bytes.{zeros}
use Rattle.sn_ondisk.specs.Trees.{store_of, data_block}
use Rattle.sn_inode.proofs.BlockLemmas.{kept_here, none_here}
use Rattle.sn_inode.proofs.LentLemmas.{lent_is}
use Rattle.sn_inode.proofs.record_blocks.copied.Goals as goal

zeros_are : replicate 4096 0 ≡ zeros 4096
unfolding zeros
zeros_are = refl

pub returns-then-index-file-clause-bytes : goal.returns-then-index-file-clause-bytes
returns-then-index-file-clause-bytes g c told =
    c.in_ok-boxed.ensures ∙ zeros_are ∙ sym (none_here _ c.args.index _ c.if-index-file.true)

pub returns-then-is_some-clause-bytes : goal.returns-then-is_some-clause-bytes
returns-then-is_some-clause-bytes g c told =
    let block : c.fetched.result.now ≡ data_block (store_of (reads (g.D.Device.disk (device_of c.args.blocks.now)))) c.args.file.now c.args.index =
    lent_is (fetched_number c.fetch_data.new.blocks) _ c.fetched.result.now _ (c.in_ok-fetch_data.ensures.lent (sym c.is_some.ensures ∙ c.if-is_some.true)) (c.fetched.ensures.bytes told) (c.in_ok-fetch_data.ensures.block told (sym c.is_some.ensures ∙ c.if-is_some.true)) in
    c.in_ok-boxed-2.ensures ∙ block ∙ sym (kept_here _ c.args.index _ c.if-index-file.false)

pub returns-clause-bytes : goal.returns-clause-bytes
returns-clause-bytes g c told =
    c.in_ok-boxed-3.ensures ∙ zeros_are ∙ sym (c.in_ok-fetch_data.ensures.hole told (sym c.is_some.ensures ∙ c.if-is_some.false)) ∙ sym (kept_here _ c.args.index _ c.if-index-file.false)
