use Rattle.std.proofs.Common.{◌≡◌, ◌+◌, ◌/◌, ◌∙◌, IfSome, ap, subst, arith}
use Rattle.sn_device.specs.Disk.{Disk, reads}
use Rattle.sn_ondisk.specs.Blocks.{block_at}
use Rattle.sn_block.specs.Lending.{device_of}
use Rattle.sn_log.proofs.SectorLemmas.{part-of-block}
use Rattle.sn_log.proofs.sectors.read_sector.Goals as goal

pub returns-clause-bytes : goal.returns-clause-bytes
returns-clause-bytes g c told =
    let before = reads (g.D.Device.disk (device_of c.args.blocks.now)) in
    let lent : c.fetched.result.now ≡ block_at (reads (g.D.Device.disk (device_of c.fetch.new.self))) (c.args.start + c.args.place / 8) =
    subst (λ o. IfSome o (λ number. c.fetched.result.now ≡ block_at (reads (g.D.Device.disk (device_of c.fetch.new.self))) number)) c.in_ok-fetch.ensures.lent (c.fetched.ensures.bytes told) in
    part-of-block before c.args.start c.args.place _ c.fetched.result.now c.copy_from_slice.new.self (g.met.D.Device.whole (device_of c.args.blocks.now) told)
    (omega (arith, c.requires.disk, g.met.D.Device.count (device_of c.args.blocks.now) told)) c.requires.place
    (lent ∙ ap (λ (d : Disk). block_at (reads d) (c.args.start + c.args.place / 8)) (c.fetch.ensures.same told))
    (omega arith) c.copy_from_slice.ensures.after
