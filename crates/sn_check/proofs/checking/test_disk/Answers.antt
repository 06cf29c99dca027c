use Rattle.std.proofs.Common.{◌≡◌, sym, subst, ◌∙◌}
use Rattle.sn_block.specs.Lending.{device_of}
use Rattle.sn_device.specs.Disk.{Disk, reads}
use Rattle.sn_image.specs.Sound.{IsSound}
use Rattle.sn_ondisk.specs.MapCopy.{map_word}
use Rattle.sn_ondisk.specs.Trees.{store_of}
use Rattle.sn_sound.specs.Logs.{HasSoundLog}
use Rattle.sn_sound.specs.Maps.{IsSoundRoot, free_blocks}
use Rattle.sn_check_roots.specs.First.{IsFirstOf}
use Rattle.sn_check.specs.Faults.{IsDamageOf}
use Rattle.sn_check.specs.Logs.{IsOfLog}
use Rattle.sn_check.proofs.VerdictLemmas.{is_clean, live_sound, log_cause, newest_cause, roots_cause}
use Rattle.sn_check.proofs.checking.test_disk.Goals as goal

pub returns-in-Err-clause-cause : goal.returns-in-Err-clause-cause
returns-in-Err-clause-cause g c told =
    let device = device_of c.args.blocks.now in
    newest_cause c.in-Err.fault (g.D.Device.status device).sectors (reads (g.D.Device.disk device)) c.in-Err.ensures.roots (c.in-Err.ensures.refuses told)

pub returns-in-Err-count_free-clause-cause : goal.returns-in-Err-count_free-clause-cause
returns-in-Err-count_free-clause-cause g c told =
    let device = device_of c.args.blocks.now in
    let found = c.in-Ok.found in
    let f = c.in-Err-count_free.fault in
    roots_cause (g.D.Device.status device).sectors (reads (g.D.Device.disk device)) found.geometry found.slot found.root (c.in-Ok.ensures.formatted told) (c.in-Ok.ensures.newest told) f
    (subst (λ (d : Disk). IsDamageOf (IsFirstOf found.geometry (reads d) found.slot found.root) f) (c.in-Ok.ensures.same told) (c.in-Err-count_free.ensures.fault told))

pub check_log-requires-clause-sound : goal.check_log-requires-clause-sound
check_log-requires-clause-sound g c told =
    let found = c.in-Ok.found in
    let before = reads (g.D.Device.disk (device_of c.find_newest.new.blocks)) in
    subst (λ (d : Disk). IsSound found.root.limits found.geometry (store_of (reads d)) found.root.inode_file) (sym (c.in-Ok-count_free.ensures.same told))
    (live_sound found.geometry before found.slot found.root (c.in-Ok-count_free.ensures.sound told))

pub returns-in-Err-check_log-clause-cause : goal.returns-in-Err-check_log-clause-cause
returns-in-Err-check_log-clause-cause g c told =
    let device = device_of c.args.blocks.now in
    let disk = reads (g.D.Device.disk device) in
    let found = c.in-Ok.found in
    let free = c.in-Ok-count_free.free in
    let f = c.in-Err-check_log.fault in
    let same = c.in-Ok.ensures.same told in
    log_cause (g.D.Device.status device).sectors disk found.geometry found.slot found.root (c.in-Ok.ensures.formatted told) (c.in-Ok.ensures.newest told)
    (subst (λ (d : Disk). IsSoundRoot found.geometry (store_of (reads d)) found.root (map_word found.geometry (reads d) found.slot)) same (c.in-Ok-count_free.ensures.sound told))
    f free
    (subst (λ (d : Disk). free ≡ free_blocks found.geometry (store_of (reads d)) found.root) same (c.in-Ok-count_free.ensures.free told))
    (subst (λ (d : Disk). IsDamageOf (IsOfLog found.geometry (reads d) found.root free) f) (c.in-Ok-count_free.ensures.same told ∙ same) (c.in-Err-check_log.ensures.fault told))

pub returns-in-Ok-check_log-clause-clean : goal.returns-in-Ok-check_log-clause-clean
returns-in-Ok-check_log-clause-clean g c told =
    let device = device_of c.args.blocks.now in
    let disk = reads (g.D.Device.disk device) in
    let found = c.in-Ok.found in
    let free = c.in-Ok-count_free.free in
    let same = c.in-Ok.ensures.same told in
    is_clean (g.D.Device.status device).sectors disk found.geometry found.slot found.root (c.in-Ok.ensures.formatted told) (c.in-Ok.ensures.newest told)
    (subst (λ (d : Disk). IsSoundRoot found.geometry (store_of (reads d)) found.root (map_word found.geometry (reads d) found.slot)) same (c.in-Ok-count_free.ensures.sound told))
    free
    (subst (λ (d : Disk). free ≡ free_blocks found.geometry (store_of (reads d)) found.root) same (c.in-Ok-count_free.ensures.free told))
    (subst (λ (d : Disk). HasSoundLog found.geometry (reads d) found.root free) (c.in-Ok-count_free.ensures.same told ∙ same) (c.in-Ok-check_log.ensures.sound told))
