use Rattle.std.proofs.Common.{◌≡◌, ◌⊎◌, ℕ, Err, Option, false, refl, sym, ap, subst, ◌∙◌, ◌+◌}
use Rattle.sn_block.specs.Lending.{device_of}
use Rattle.sn_cp_progress.specs.Meaning.{RunsWith}
use Rattle.sn_cp_whole.specs.Making.{with_parts}
use Rattle.sn_cp_whole.specs.Planning.{kept_in}
use Rattle.sn_cp_whole.specs.declared.base.PointBase.{PointBase}
use Rattle.sn_device.specs.Crash.{LeavesOnly}
use Rattle.sn_held.specs.Held.{Going}
use Rattle.sn_held.specs.Images.{IsImage}
use Rattle.sn_held.proofs.EventLemmas.{ready_with}
use Rattle.sn_live_world.specs.World.{changes_of, world_in}
use Rattle.sn_model.specs.declared.outcome.AskedPoint.TheVariants.{Plain}
use Rattle.sn_model.specs.Settling.{settle, settled}
use Rattle.sn_model.specs.World.{World}
use Rattle.sn_overlay.specs.Overlays.{layer_of, no_changes}
use Rattle.sn_held.specs.Rooms.{RoomCounts, dropping, fresh}
use Rattle.sn_events.specs.Answers.{BuildsLast}
use Rattle.sn_events.specs.Dropping.{DropsFiles}
use Rattle.sn_events.specs.Mounted.{trees_there}
use Rattle.sn_events.proofs.BasedLemmas.{base_none, first_there}
use Rattle.sn_events.proofs.PointLemmas.{not_device, point_unmade}
use Rattle.sn_events.proofs.UnmountLemmas.{last, ready_as, settles_twice}
use Rattle.sn_fs.specs.Filesystem.{held, tree_of}
use Rattle.sn_fs.proofs.MountedLemmas.{kept_mounted, unmade_same}
use Rattle.sn_fs.proofs.fs.Fs.make_last_point.Goals as goal

pub make_point-requires-clause-base : goal.make_point-requires-clause-base
make_point-requires-clause-base g c = base_none c.args.self.now.going c.args.self.now.log c.args.self.now.base c.requires.between (c.requires.sound.based c.requires.running)

pub returns-in-Ok-clause-points : goal.returns-in-Ok-clause-points
returns-in-Ok-clause-points g c told r =
    let fs = c.args.self.now in
    let old = held fs in
    let built = layer_of c.args.changed.now in
    let m = c.requires.sound.meant c.requires.running told in
    let s = c.requires.settled told in
    let drops : DropsFiles old.base old.world.live (record old.base { changed = built }) (settled old.world.live) = record { files = s.files; slot = refl; root = refl; words = refl; gone = s.gone; leads = s.leads } in
    let whole = m.whole.live in
    let room = c.drop_files.new.self in
    let room_is = c.drop_files.ensures ∙ ap (λ (n : ℕ). dropping n old.room) (c.nameless.ensures.tells (tree_of fs) m.over) in
    let ready = ready_as old built drops whole r room room_is in
    let from = record (last old built drops whole r) { room = room } in
    let made = c.in-Ok.ensures.point told from (settle old.world) ready tt in
    let base = kept_in c.make_point.new.base no_changes in
    let disk = g.D.Device.disk (device_of c.make_point.new.blocks) in
    let status = g.D.Device.status (device_of c.make_point.new.blocks) in
    let parts = with_parts from c.make_point.new.log c.make_point.new.room disk in
    let done = c.in-Ok.ensures.costs.done in (
      record parts { base = base; status = status },
      record {
        between = c.requires.between;
        world = refl;
        fresh = record {
          between = c.requires.between;
          log = first_there c.make_point.new.log fs.log.blocks (fs.log.epoch + 1) c.make_point.new.base.root.epoch c.in-Ok.ensures.log c.in-Ok.ensures.base.epoch;
          room = c.in-Ok.ensures.room ∙ ap fresh (sym (ap (λ (x : RoomCounts). x.free) c.in-Ok.ensures.room));
          changed = refl;
          none_kept = λ n. refl;
          none_since = λ n. refl;
        };
        log = c.in-Ok.ensures.log;
        follows = c.in-Ok.ensures.follows;
        age = c.in-Ok.ensures.age;
        moments = subst (λ (w : World). LeavesOnly old.disk disk (λ d. IsImage d w ⊎ IsImage d (settle (settle old.world)))) (settles_twice old.world) made.0;
        runs = ready_with parts (settle old.world) base (λ n. false) (λ n. false) base old.point status made.1;
        touched = c.in-Ok.ensures.touched told;
        built = built;
        builds = drops;
        count = done.0;
        few = done.1;
        gate = done.2;
        costs = done.3;
      },
      refl,
      refl,
    )

pub returns-in-Err-clause-points : goal.returns-in-Err-clause-points
returns-in-Err-clause-points g c told r =
    let fs = c.args.self.now in
    let old = held fs in
    let built = layer_of c.args.changed.now in
    let m = c.requires.sound.meant c.requires.running told in
    let s = c.requires.settled told in
    let drops : DropsFiles old.base old.world.live (record old.base { changed = built }) (settled old.world.live) = record { files = s.files; slot = refl; root = refl; words = refl; gone = s.gone; leads = s.leads } in
    let whole = m.whole.live in
    let room = c.drop_files.new.self in
    let room_is = c.drop_files.ensures ∙ ap (λ (n : ℕ). dropping n old.room) (c.nameless.ensures.tells (tree_of fs) m.over) in
    let ready = ready_as old built drops whole r room room_is in
    let from = record (last old built drops whole r) { room = room } in
    let e = c.in-Err.ensures in
    let disk = g.D.Device.disk (device_of c.make_point.new.blocks) in
    let new = held (record fs { blocks = c.make_point.new.blocks; base = c.make_point.new.base; log = c.make_point.new.log }) in
    let base_is = ap (λ (b : PointBase). kept_in b (changes_of fs.world)) e.keeps.0 in
    let parts = with_parts from c.make_point.new.log c.make_point.new.room disk in
    point_unmade (settle old.world) (BuildsLast old) old new (λ same. λ i. world_in fs.world (trees_there (same i) (e.keeps.0 i).root)) refl refl refl refl base_is built drops c.in-Err.fault Plain (settle old.world) (settles_twice old.world) refl parts (kept_in c.make_point.new.base no_changes) refl e.stays (e.point told from (settle old.world) ready tt) (e.touched told) e.costs.cause e.costs.later
    (record { writes = e.costs.writes; syncs = e.costs.syncs }) (λ is. e.aged (ap Err is))

pub returns-in-Err-clause-sound : goal.returns-in-Err-clause-sound
returns-in-Err-clause-sound g c =
    let fs = c.args.self.now in
    let e = c.in-Err.ensures in
    let d0 = g.D.Device.disk (device_of fs.blocks) in
    let not_cut = λ (goes_on : c.stops-self.result ≡ false). not_device c.in-Err.fault (sym c.stops-self.ensures ∙ goes_on) in
    kept_mounted g.D.Device.tells_bytes d0 _ _ _ fs.log c.make_point.new.log fs.world fs.room fs.room fs.base c.make_point.new.base fs.going fs.has_stopped c.stops-self.result c.requires.running e.keeps.0 refl (λ goes_on. e.stays (not_cut goes_on)) e.costs.later.sectors
    (λ goes_on told.
    let m = c.requires.sound.meant c.requires.running told in
    let old = held fs in
    let r = subst (λ (p : Option Going). RunsWith p old old.world) c.requires.between m.runs in
    let built = layer_of c.args.changed.now in
    let s = c.requires.settled told in
    let drops : DropsFiles old.base old.world.live (record old.base { changed = built }) (settled old.world.live) = record { files = s.files; slot = refl; root = refl; words = refl; gone = s.gone; leads = s.leads } in
    let whole = m.whole.live in
    let room = c.drop_files.new.self in
    let room_is = c.drop_files.ensures ∙ ap (λ (n : ℕ). dropping n old.room) (c.nameless.ensures.tells (tree_of fs) m.over) in
    let ready = ready_as old built drops whole r room room_is in
    let from = record (last old built drops whole r) { room = room } in
    unmade_same c.in-Err.fault (not_cut goes_on) Plain (settle old.world) d0 _ _ (e.point told from (settle old.world) ready tt)) c.requires.sound
