use Rattle.std.proofs.Common.{sym, subst}
use Rattle.sn_device.specs.Disk.{Disk, reads}
use Rattle.sn_device.specs.declared.status.Status.{Status}
use Rattle.sn_block.specs.Lending.{device_of}
use Rattle.sn_image.specs.Image.{image}
use Rattle.sn_live.specs.Live.{IsLive, shown_of}
use Rattle.sn_ondisk.specs.Trees.{store_of}
use Rattle.sn_examine.specs.Finding.{HasFound}
use Rattle.sn_examine.specs.Laws.{IsSomeClean}
use Rattle.sn_examine.specs.Refusing.{Refuses}
use Rattle.sn_mount.specs.FoundDisk.{kept_of}
use Rattle.sn_mount.proofs.CauseLemmas.{refused_cause}
use Rattle.sn_mount.proofs.examining.examine.Goals as goal

pub find-requires : goal.find-requires
find-requires g c = record {
  clean = λ told.
      let old = g.D.Device.status (device_of c.args.blocks.now) in
      let next = reads (g.D.Device.disk (device_of c.test_disk.new.blocks)) in
      subst (λ (s : Status). IsSomeClean s.sectors next) (sym c.in-Ok.ensures.idle)
      (subst (λ (d : Disk). IsSomeClean old.sectors (reads d)) (sym (c.in-Ok.ensures.same told)) (c.in-Ok.free, c.in-Ok.ensures.clean told));
}

pub returns-in-Ok-find-clause-clean : goal.returns-in-Ok-find-clause-clean
returns-in-Ok-find-clause-clean g c told = (c.in-Ok.free, c.in-Ok.ensures.clean told)

pub returns-in-Ok-find-clause-found : goal.returns-in-Ok-find-clause-found
returns-in-Ok-find-clause-found g c told =
    let f = c.in-Ok-find.found in
    let mid = g.D.Device.status (device_of c.test_disk.new.blocks) in
    let old = reads (g.D.Device.disk (device_of c.args.blocks.now)) in
    subst (λ (s : Status). HasFound s.sectors old (kept_of f) f.at (shown_of f.live (image (store_of old) f.root.inode_file)) f.room f.recovers) c.in-Ok.ensures.idle
    (subst (λ (d : Disk). HasFound mid.sectors (reads d) (kept_of f) f.at (shown_of f.live (image (store_of (reads d)) f.root.inode_file)) f.room f.recovers) (c.in-Ok.ensures.same told) (c.in-Ok-find.ensures.found told))

pub returns-in-Ok-find-clause-live : goal.returns-in-Ok-find-clause-live
returns-in-Ok-find-clause-live g c told =
    let f = c.in-Ok-find.found in
    subst (λ (d : Disk). IsLive f.live (image (store_of (reads d)) f.root.inode_file)) (c.in-Ok.ensures.same told) (c.in-Ok-find.ensures.live told)

pub returns-in-Err-find-clause-cause : goal.returns-in-Err-find-clause-cause
returns-in-Err-find-clause-cause g c told =
    let device = device_of c.args.blocks.now in
    let sectors = (g.D.Device.status device).sectors in
    let old = reads (g.D.Device.disk device) in
    let f = c.in-Err-find.fault in
    let mid = g.D.Device.status (device_of c.test_disk.new.blocks) in
    let refuses = subst (λ (s : Status). Refuses f s.sectors old) c.in-Ok.ensures.idle
    (subst (λ (d : Disk). Refuses f mid.sectors (reads d)) (c.in-Ok.ensures.same told) (c.in-Err-find.ensures.refuses told)) in
    refused_cause f sectors old (record { whole = g.met.D.Device.whole device told; count = g.met.D.Device.count device told }) (c.in-Ok.free, c.in-Ok.ensures.clean told) refuses
