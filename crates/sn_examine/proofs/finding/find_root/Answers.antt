use Rattle.std.proofs.Common.{◌+◌, subst}
use Rattle.sn_device.specs.Disk.{Disk, reads}
use Rattle.sn_block.specs.Lending.{device_of}
use Rattle.sn_examine.specs.Examining.{SomeIsLater}
use Rattle.sn_examine.proofs.FindLemmas.{later_refuses}
use Rattle.sn_examine.proofs.finding.find_root.Goals as goal

pub returns-in-Err-none_later-clause-refuses : goal.returns-in-Err-none_later-clause-refuses
returns-in-Err-none_later-clause-refuses g c told =
    let device = device_of c.args.blocks.now in
    let newest = c.in-Ok.newest in
    let f = c.in-Err-none_later.fault in
    later_refuses (g.D.Device.status device).sectors (reads (g.D.Device.disk device)) newest.geometry newest.slot newest.root (g.met.D.Device.count device told) f (c.in-Ok.ensures.formatted told) (c.in-Ok.ensures.newest told)
    (subst (λ (d : Disk). SomeIsLater f (reads d) newest.geometry (newest.root.epoch + 1)) (c.in-Ok.ensures.same told) (c.in-Err-none_later.ensures.later told))
