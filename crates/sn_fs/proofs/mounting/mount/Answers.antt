use Rattle.std.proofs.Common.{false, None, refl, sym, ap, subst, arith, ◌∙◌}
use Rattle.sn_device.specs.Disk.{Disk, reads}
use Rattle.sn_block.specs.Lending.{device_of}
use Rattle.sn_live_world.specs.World.{kept_of, kept_since_of}
use Rattle.sn_model.specs.declared.fault.MountFault.TheVariants.{Memory}
use Rattle.sn_events.specs.Mounted.{holding}
use Rattle.sn_events.specs.Mounting.{IsLeft, Mounts}
use Rattle.sn_events.proofs.MountLemmas.{is_left, mounts, refused_memory}
use Rattle.sn_fs.proofs.mounting.mount.Goals as goal
use Rattle.sn_held.specs.Rooms.{RoomCounts, fresh}
use Rattle.sn_held.specs.Images.{IsImage}
use Rattle.sn_model.specs.World.{World}
use Rattle.sn_mount.specs.Rooting.{MountsRoot}

pub returns-in-Ok-recover-clause-mounted : goal.returns-in-Ok-recover-clause-mounted
returns-in-Ok-recover-clause-mounted g c told =
    let r = c.in-Ok-recover.field-0 in
    let h = holding g.D.Device c.recover.new.blocks r.log r.world r.room r.base None in
    let old = g.D.Device.disk (device_of c.in-Ok.blocks) in
    let sectors = (g.D.Device.status (device_of c.in-Ok.blocks)).sectors in
    subst (λ (d : _). Mounts (g.D.Device.status d).sectors (g.D.Device.disk d) h false) c.in-Ok.ensures.device
    (mounts sectors old h (c.in-Ok-recover.ensures.recovers told) (c.in-Ok-recover.ensures.clean told)
    (record { between = refl; log = c.in-Ok-recover.ensures.log; room = c.in-Ok-recover.ensures.room ∙ ap fresh (sym (ap (λ (x : RoomCounts). x.free) c.in-Ok-recover.ensures.room)); changed = c.in-Ok-recover.ensures.empty; none_kept = c.in-Ok-recover.ensures.kept; none_since = c.in-Ok-recover.ensures.since }))

pub returns-in-Ok-recover-clause-root : goal.returns-in-Ok-recover-clause-root
returns-in-Ok-recover-clause-root g c told =
    let r = c.in-Ok-recover.field-0 in
    let h = holding g.D.Device c.recover.new.blocks r.log r.world r.room r.base None in
    subst (λ (d : _). (world : World) (im : IsImage (reads (g.D.Device.disk d)) world) → MountsRoot (reads (g.D.Device.disk d)) world im h.base (g.D.Device.status d) h.status) c.in-Ok.ensures.device (c.in-Ok-recover.ensures.root told)

pub returns-in-Err-recover-clause-unmounted : goal.returns-in-Err-recover-clause-unmounted
returns-in-Err-recover-clause-unmounted g c told =
    let old = g.D.Device.disk (device_of c.in-Ok.blocks) in
    let sectors = (g.D.Device.status (device_of c.in-Ok.blocks)).sectors in
    let new = g.D.Device.disk (device_of c.recover.new.blocks) in
    let left = is_left c.in-Err-recover.fault sectors old new (c.in-Err-recover.ensures.recovers told) in
    subst (λ (d : _). IsLeft c.in-Err-recover.fault (g.D.Device.status d).sectors (g.D.Device.disk d) (g.D.Device.disk c.into_device.result)) c.in-Ok.ensures.device
    (subst (λ (d : Disk). IsLeft c.in-Err-recover.fault sectors old d) (sym (ap g.D.Device.disk c.into_device.ensures)) left)

pub returns-in-Err-clause-unmounted : goal.returns-in-Err-clause-unmounted
returns-in-Err-clause-unmounted g c told =
    let old = g.D.Device.disk c.args.device in
    let sectors = (g.D.Device.status c.args.device).sectors in
    subst (λ (d : Disk). IsLeft Memory sectors old d) (sym (ap g.D.Device.disk c.in-Err.ensures.value_returned)) (refused_memory sectors old)

pub returns-in-Ok-recover-clause-sound : goal.returns-in-Ok-recover-clause-sound
returns-in-Ok-recover-clause-sound g c =
    let e = c.in-Ok-recover.ensures in
    let status = g.D.Device.status (device_of c.recover.new.blocks) in
    record {
      within = λ _. omega (arith, e.within, e.sectors);
      parked = λ _. e.few;
      based = λ _. e.base;
      between = λ _ _. e.point;
      drops = λ _. e.drops;
      meant = λ _ told.
          record { over = e.over told; whole = e.whole told; runs = e.runs told (kept_of c.in-Ok-recover.field-0.world) (kept_since_of c.in-Ok-recover.field-0.world) status; stands = tt };
    }
