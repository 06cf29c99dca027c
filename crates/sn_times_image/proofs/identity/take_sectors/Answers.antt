use Rattle.std.proofs.Common.{◌+◌, ◌++◌, ◌∙◌, ap, refl}
use Rattle.sn_device.specs.Disk.{Disk, reads}
use Rattle.sn_device.specs.Sectors.{sector_at}
use Rattle.sn_ondisk.specs.Blocks.{bytes_at}
use Rattle.sn_times_image.proofs.Taking.{held_along, none_taken, one_more}
use Rattle.sn_times_image.proofs.identity.take_sectors.Goals as goal

pub loop-i-init : goal.loop-i-init
loop-i-init g c = record {
  status = refl;
  disk = λ told. refl;
  taken = λ told message held. held_along _ _ _ (none_taken (reads (g.D.Device.disk c.args.device.now)) c.args.first message) held;
}

pub loop-i-preserved : goal.loop-i-preserved
loop-i-preserved g c = record {
  status = c.in_ok-take_sector.ensures.counts.done ∙ c.loop-i.invariant.status;
  disk = λ told. c.in_ok-take_sector.ensures.same told ∙ c.loop-i.invariant.disk told;
  taken = λ told message held.
      let before = reads (g.D.Device.disk c.args.device.now) in
      held_along _ _ _
      (ap (λ (disk : Disk). (message ++ bytes_at before c.args.first c.loop-i.i) ++ sector_at (reads disk) (c.args.first + c.loop-i.i)) (c.loop-i.invariant.disk told)
      ∙ one_more before c.args.first c.loop-i.i message)
      (c.in_ok-take_sector.ensures.taken told (message ++ bytes_at before c.args.first c.loop-i.i) (c.loop-i.invariant.taken told message held));
}
