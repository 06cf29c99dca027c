use Rattle.std.proofs.Common.{◌≡◌, ℕ, sym, ap, subst, ◌∙◌}
use Rattle.sn_device.specs.Disk.{Disk, reads}
use Rattle.sn_block.specs.Lending.{device_of}
use Rattle.sn_image.specs.Image.{image}
use Rattle.sn_live.specs.Live.{changes_of, shown_of}
use Rattle.sn_model.specs.Tree.{Tree}
use Rattle.sn_ondisk.specs.MapCopy.{HasMap}
use Rattle.sn_ondisk.specs.Trees.{store_of}
use Rattle.sn_overlay.specs.Layers.{Layer}
use Rattle.sn_model.specs.Settling.{nameless_in}
use Rattle.sn_overlay.specs.Overlays.{no_changes}
use Rattle.sn_held.specs.Held.{Kept}
use Rattle.sn_check_log.specs.Trying.{changes_if, tree_of}
use Rattle.sn_examine.specs.Both.{BothBreak, HasBoth}
use Rattle.sn_examine.specs.Replaying.{LeadsOn}
use Rattle.sn_examine.specs.Rooms.{FindsRoom, IsUncovered}
use Rattle.sn_examine.proofs.FindLemmas.{aged_refuses, both_refuses, has_found, tells_recovery, uncovered_refuses}
use Rattle.sn_mount.proofs.FoundLemmas.{clean_is_sound, none_refuses, sound_stays}
use Rattle.sn_mount.proofs.finding.find.Goals as goal

pub count_nameless-requires : goal.count_nameless-requires
count_nameless-requires g c = record {
  sound = λ told.
      let device = device_of c.args.blocks.now in
      let found = c.in-Ok.found in
      let has = c.in-Ok.ensures.found told in
      sound_stays found.root.limits found.root.inode_file (g.D.Device.status device) _ (g.D.Device.disk device) _ c.in-Ok.ensures.idle (c.in-Ok.ensures.same told)
      (clean_is_sound (g.D.Device.status device).sectors (reads (g.D.Device.disk device)) found.geometry found.slot found.root (c.requires.clean told) has.formatted has.newest);
}

pub try_both-requires-clause-sound : goal.try_both-requires-clause-sound
try_both-requires-clause-sound g c told =
    let device = device_of c.args.blocks.now in
    let found = c.in-Ok.found in
    let has = c.in-Ok.ensures.found told in
    sound_stays found.root.limits found.root.inode_file (g.D.Device.status device) _ (g.D.Device.disk device) _ (c.in-Ok-count_nameless.ensures.idle ∙ c.in-Ok.ensures.idle) (c.in-Ok-count_nameless.ensures.same told ∙ c.in-Ok.ensures.same told)
    (clean_is_sound (g.D.Device.status device).sectors (reads (g.D.Device.disk device)) found.geometry found.slot found.root (c.requires.clean told) has.formatted has.newest)

pub live_of-requires-clause-sound : goal.live_of-requires-clause-sound
live_of-requires-clause-sound g c told =
    let device = device_of c.args.blocks.now in
    let found = c.in-Ok.found in
    let has = c.in-Ok.ensures.found told in
    sound_stays found.root.limits found.root.inode_file (g.D.Device.status device) _ (g.D.Device.disk device) _ (c.in-Ok-try_both.ensures.idle ∙ c.in-Ok-count_nameless.ensures.idle ∙ c.in-Ok.ensures.idle) (c.in-Ok-try_both.ensures.same told ∙ c.in-Ok-count_nameless.ensures.same told ∙ c.in-Ok.ensures.same told)
    (clean_is_sound (g.D.Device.status device).sectors (reads (g.D.Device.disk device)) found.geometry found.slot found.root (c.requires.clean told) has.formatted has.newest)

pub returns-in-Err-count_nameless-clause-refuses : goal.returns-in-Err-count_nameless-clause-refuses
returns-in-Err-count_nameless-clause-refuses g c told = none_refuses c.in-Err-count_nameless.fault _ _ (c.in-Err-count_nameless.ensures.undamaged told)

pub returns-in-Err-live_of-clause-refuses : goal.returns-in-Err-live_of-clause-refuses
returns-in-Err-live_of-clause-refuses g c told = none_refuses c.in-Err-live_of.fault _ _ (c.in-Err-live_of.ensures.undamaged told)

pub returns-in-Err-try_both-clause-refuses : goal.returns-in-Err-try_both-clause-refuses
returns-in-Err-try_both-clause-refuses g c told =
    let device = device_of c.args.blocks.now in
    let found = c.in-Ok.found in
    let has = c.in-Ok.ensures.found told in
    let f = c.in-Err-try_both.fault in
    let same = c.in-Ok-count_nameless.ensures.same told ∙ c.in-Ok.ensures.same told in
    both_refuses (g.D.Device.status device).sectors (reads (g.D.Device.disk device)) found.geometry found.slot found.root (g.met.D.Device.count device told) f has.formatted has.newest
    (subst (λ (d : Disk). BothBreak found.root.limits f (reads d) (image (store_of (reads d)) found.root.inode_file) found.geometry found.root.epoch) same (c.in-Err-try_both.ensures.replayed told))

pub returns-in-Err-find_room-clause-refuses : goal.returns-in-Err-find_room-clause-refuses
returns-in-Err-find_room-clause-refuses g c told =
    let device = device_of c.args.blocks.now in
    let found = c.in-Ok.found in
    let has = c.in-Ok.ensures.found told in
    let f = c.in-Err-find_room.fault in
    let r = c.in-Ok-try_both.tried in
    let disk = reads (g.D.Device.disk device) in
    let img = image (store_of disk) found.root.inode_file in
    let same = c.in-Ok-count_nameless.ensures.same told ∙ c.in-Ok.ensures.same told in
    let both = subst (λ (d : Disk). HasBoth found.root.limits (reads d) (image (store_of (reads d)) found.root.inode_file) found.geometry found.root.epoch r.at (tree_of r.live (image (store_of (reads d)) found.root.inode_file)) r.charges) same (c.in-Ok-try_both.ensures.replayed told) in
    let count = c.in-Ok-count_nameless.ensures.count told ∙ ap (λ (d : Disk). nameless_in (image (store_of (reads d)) found.root.inode_file)) (c.in-Ok.ensures.same told) in
    let over = subst (λ (d : Disk). IsUncovered f found.geometry (reads d) found.slot found.root r.charges c.in-Ok-count_nameless.count) (c.in-Ok-live_of.ensures.same told ∙ c.in-Ok-try_both.ensures.same told ∙ same) (c.in-Err-find_room.ensures.uncovered told) in
    uncovered_refuses (g.D.Device.status device).sectors disk found.geometry found.slot found.root (g.met.D.Device.count device told) f r.at (tree_of r.live img) r.charges has.formatted has.newest both
    (subst (λ (n : ℕ). IsUncovered f found.geometry disk found.slot found.root r.charges n) count over)

pub returns-in-Err-test_age-clause-refuses : goal.returns-in-Err-test_age-clause-refuses
returns-in-Err-test_age-clause-refuses g c told =
    let device = device_of c.args.blocks.now in
    let found = c.in-Ok.found in
    let has = c.in-Ok.ensures.found told in
    let r = c.in-Ok-try_both.tried in
    let disk = reads (g.D.Device.disk device) in
    let img = image (store_of disk) found.root.inode_file in
    let same = c.in-Ok-count_nameless.ensures.same told ∙ c.in-Ok.ensures.same told in
    let both = subst (λ (d : Disk). HasBoth found.root.limits (reads d) (image (store_of (reads d)) found.root.inode_file) found.geometry found.root.epoch r.at (tree_of r.live (image (store_of (reads d)) found.root.inode_file)) r.charges) same (c.in-Ok-try_both.ensures.replayed told) in
    let count = c.in-Ok-count_nameless.ensures.count told ∙ ap (λ (d : Disk). nameless_in (image (store_of (reads d)) found.root.inode_file)) (c.in-Ok.ensures.same told) in
    let dropped = c.in-Ok-count_nameless.count in
    aged_refuses (g.D.Device.status device).sectors disk found.geometry found.slot found.root (g.met.D.Device.count device told) c.in-Err-test_age.fault r.at (tree_of r.live img) r.charges both c.is_to_recover-recovers.result has.formatted has.newest
    (tells_recovery found.root.limits disk img found.geometry found.root.epoch r.at (tree_of r.live img) r.charges both c.is_to_recover-recovers.result found.root c.count.result dropped c.count.ensures count c.is_to_recover-recovers.ensures)
    c.in-Err-test_age.ensures.aged

pub returns-clause-found : goal.returns-clause-found
returns-clause-found g c told =
    let device = device_of c.args.blocks.now in
    let found = c.in-Ok.found in
    let has = c.in-Ok.ensures.found told in
    let r = c.in-Ok-try_both.tried in
    let live = c.in-Ok-live_of.live in
    let disk = reads (g.D.Device.disk device) in
    let img = image (store_of disk) found.root.inode_file in
    let same = c.in-Ok-count_nameless.ensures.same told ∙ c.in-Ok.ensures.same told in
    let tried = c.in-Ok-try_both.ensures.same told ∙ same in
    let all = c.in-Ok-live_of.ensures.same told ∙ tried in
    let shown = subst (λ (d : Disk). shown_of live (image (store_of (reads d)) found.root.inode_file) ≡ tree_of r.live (image (store_of (reads d)) found.root.inode_file)) tried (c.in-Ok-live_of.ensures.shown told) in
    let both = subst (λ (t : Tree). HasBoth found.root.limits disk img found.geometry found.root.epoch r.at t r.charges) (sym shown)
    (subst (λ (d : Disk). HasBoth found.root.limits (reads d) (image (store_of (reads d)) found.root.inode_file) found.geometry found.root.epoch r.at (tree_of r.live (image (store_of (reads d)) found.root.inode_file)) r.charges) same (c.in-Ok-try_both.ensures.replayed told)) in
    let leads = subst (λ (t : Tree). LeadsOn found.root.limits no_changes img 0 (changes_of live) t r.charges) (sym shown)
    (subst (λ (l : Layer). LeadsOn found.root.limits no_changes img 0 l (tree_of r.live img) r.charges) (sym c.in-Ok-live_of.ensures.changes)
    (subst (λ (d : Disk). LeadsOn found.root.limits no_changes (image (store_of (reads d)) found.root.inode_file) 0 (changes_if r.live) (tree_of r.live (image (store_of (reads d)) found.root.inode_file)) r.charges) same (c.in-Ok-try_both.ensures.changed told))) in
    let dropped = c.in-Ok-count_nameless.count in
    let count = c.in-Ok-count_nameless.ensures.count told ∙ ap (λ (d : Disk). nameless_in (image (store_of (reads d)) found.root.inode_file)) (c.in-Ok.ensures.same told) in
    let k : Kept = record { slot = found.slot; root = found.root; words = c.in-Ok-find_room.found.0; changed = changes_of live } in
    has_found (g.D.Device.status device).sectors disk found.geometry k r.at (shown_of live img) c.in-Ok-find_room.found.1 c.is_to_recover-recovers.result r.charges c.count.result dropped c.in-Ok-try_both.ensures.blocks has
    (λ words h. c.in-Ok-find_room.ensures.words told words (subst (λ (d : Disk). HasMap found.geometry (reads d) found.slot words) (sym all) h))
    both leads
    (subst (λ (d : Disk). FindsRoom found.geometry (reads d) found.slot found.root r.charges dropped c.in-Ok-find_room.found.1) all (c.in-Ok-find_room.ensures.room told))
    c.count.ensures count c.is_to_recover-recovers.ensures
    c.in-Ok-test_age.ensures.left
