use Rattle.std.proofs.Common.{subst}
use Rattle.sn_device.specs.Disk.{Disk, reads}
use Rattle.sn_layout.specs.declared.geometry.LogHalf.TheVariants.{One}
use Rattle.sn_block.specs.Lending.{device_of}
use Rattle.sn_examine.specs.Examining.{IsLaterIn}
use Rattle.sn_examine.proofs.ExamineLemmas.{later_one}
use Rattle.sn_examine.proofs.examining.none_later.Goals as goal

pub returns-in-Err-none_later_in-clause-later : goal.returns-in-Err-none_later_in-clause-later
returns-in-Err-none_later_in-clause-later g c told =
    let f = c.in-Err-none_later_in.fault in
    later_one f (reads (g.D.Device.disk (device_of c.args.blocks.now))) c.args.geometry c.args.epoch
    (subst (λ (d : Disk). IsLaterIn f (reads d) c.args.geometry One c.args.epoch) (c.in-Ok.ensures.same told) (c.in-Err-none_later_in.ensures.later told))
