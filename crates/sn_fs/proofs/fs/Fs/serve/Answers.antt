use Rattle.std.proofs.Common.{Bool, false, IsSome, None, Some, sym, ap, subst, ◌∙◌, arith}
use Rattle.std.proofs.lemmas.Bool.{true≢false}
use Rattle.sn_block.specs.Lending.{device_of}
use Rattle.sn_caller.specs.Called.{HasRoom}
use Rattle.sn_cp_whole.specs.declared.base.PointBase.{PointBase}
use Rattle.sn_held.specs.Held.{Held}
use Rattle.sn_limits.specs.Versions.{limits_written}
use Rattle.sn_live_world.specs.Turned.{Turns as CanTurnOver}
use Rattle.sn_live_world.specs.World.{IsOver, room_of}
use Rattle.sn_model.specs.Machine.{refused}
use Rattle.sn_model.specs.declared.reply.Errno.TheVariants.{Enomem}
use Rattle.sn_model.specs.declared.reply.Reply.{Reply}
use Rattle.sn_model.proofs.LoseLemmas.{no_loss}
use Rattle.sn_held.specs.Rooms.{RoomCounts}
use Rattle.sn_events.specs.Answers.{is_fitting}
use Rattle.sn_events.specs.Changing.{errno_of}
use Rattle.sn_events.specs.Serving.{Serves, TellsLack, Turns, reply_to}
use Rattle.sn_events.proofs.CallLemmas.{undecided_serves, unprepared_serves}
use Rattle.sn_events.proofs.ServeLemmas.{still_based, still_stands, within_still}
use Rattle.sn_fs.specs.Filesystem.{IsFs, has_stopped, held, tree_of}
use Rattle.sn_fs.specs.declared.fs.Fs.{Fs}
use Rattle.sn_fs.proofs.MountedLemmas.{stopped_mounted}
use Rattle.sn_fs.proofs.ServedLemmas.{applies, fails, lacks_first, numbered, runs_on, runs_then, serves, serves_told, spelled, turns_now, turns_then, whole_on, whole_then}
use Rattle.sn_fs.proofs.fs.Fs.serve.Goals as goal

pub returns-in-Err-clause-served : goal.returns-in-Err-clause-served
returns-in-Err-clause-served g c told =
    let h = held c.args.self.now in
    let new = held c.decide.new.self in
    subst (λ (r : Reply). Serves (Some r) h c.args.session c.args.call.now new (has_stopped c.decide.new.self)) (sym c.reply_of.ensures)
    (subst (Serves (Some (reply_to c.in-Err.fault)) h c.args.session c.args.call.now new) (sym (ap has_stopped c.in-Err.ensures.rest ∙ c.requires.running))
    (undecided_serves h new c.args.session c.args.call.now c.in-Err.fault (c.in-Err.ensures.undecided told)))

pub returns-in_default-clause-served : goal.returns-in_default-clause-served
returns-in_default-clause-served g c told =
    let h = held c.args.self.now in
    let p = c.prepare.new.self in
    subst (λ (r : Reply). Serves (Some r) h c.args.session c.args.call.now (held p) (has_stopped p)) (sym c.refused.ensures)
    (subst (Serves (Some (refused Enomem)) h c.args.session c.args.call.now (held p)) (sym (ap has_stopped c.in_default.ensures.rest ∙ ap has_stopped c.in-Ok.ensures.rest ∙ c.requires.running))
    (subst (λ (x : Held). Serves (Some (refused Enomem)) h c.args.session c.args.call.now x false) (sym (c.in_default.ensures.held ∙ c.in-Ok.ensures.quiet told))
    (unprepared_serves h c.args.session c.args.call.now c.in-Ok.outcome (c.in-Ok.ensures.decided told) c.in_default.ensures.opening)))

pub returns-in_default-choose-clause-served : goal.returns-in_default-choose-clause-served
returns-in_default-choose-clause-served g c told =
    let fs = c.args.self.now in
    let p = c.prepare.new.self in
    let running = ap has_stopped c.in-Ok-prepare.ensures.rest ∙ ap has_stopped c.in-Ok.ensures.rest ∙ c.requires.running in
    let same = c.in-Ok-prepare.ensures.held ∙ c.in-Ok.ensures.quiet told in
    let left = c.in_default-choose.ensures.left (tree_of p) (c.in-Ok-prepare.ensures.sound.meant running told).over
    (numbered (held fs) (held p) c.args.session c.args.call.now c.in-Ok.outcome c.in-Ok.ensures.numbers (c.requires.sound.meant c.requires.running told).whole (c.in-Ok.ensures.decided told) same) in
    absurd (true≢false (sym left))

pub returns-in_default-of-clause-served : goal.returns-in_default-of-clause-served
returns-in_default-of-clause-served g c told =
    let fs = c.args.self.now in
    let p = c.prepare.new.self in
    let o = c.in-Ok.outcome in
    let running = ap has_stopped c.in-Ok-prepare.ensures.rest ∙ ap has_stopped c.in-Ok.ensures.rest ∙ c.requires.running in
    let same = c.in-Ok-prepare.ensures.held ∙ c.in-Ok.ensures.quiet told in
    let picked = c.in-Some.field-0 in
    let picks = c.in-Some.ensures.picked (tree_of p) (c.in-Ok-prepare.ensures.sound.meant running told).over in
    let is = spelled (held fs) (held p) c.args.session c.args.call.now o c.in-Ok.ensures.numbers (c.requires.sound.meant c.requires.running told).whole (c.in-Ok.ensures.decided told) same picked picks c.in-Some-change.change c.in-Some-change.is in
    absurd (true≢false (sym (subst IsSome c.in_default-of.is (c.of.ensures.valid.1 is))))

pub returns-then-lacks-clause-served : goal.returns-then-lacks-clause-served
returns-then-lacks-clause-served g c told =
    let fs = c.args.self.now in
    let recorded = c.in-Some-change.is ∙ ap Some (sym c.in-Some-of.ensures.same) in
    let p = c.prepare.new.self in
    let o = c.in-Ok.outcome in
    let running = ap has_stopped c.in-Ok.ensures.rest ∙ c.requires.running in
    let ready = ap has_stopped c.in-Ok-prepare.ensures.rest ∙ running in
    let quiet = c.in-Ok.ensures.quiet told in
    let same = c.in-Ok-prepare.ensures.held ∙ quiet in
    let picked = c.in-Some.field-0 in
    let picks = c.in-Some.ensures.picked (tree_of p) (c.in-Ok-prepare.ensures.sound.meant ready told).over in
    let fits = c.fits-fits.ensures.exact (c.in-Ok.ensures.sound.meant running told).over ∙ ap (λ (x : Held). is_fitting x o) quiet in (
      lacks_first (held fs) (held p) c.args.session c.args.call.now o c.in-Ok.ensures.numbers (c.requires.sound.meant c.requires.running told).whole (c.in-Ok.ensures.decided told) same picked picks c.in-Some-of.payload recorded
          c.fits-fits.result c.lacks.result fits c.lacks.ensures c.if-lacks.true,
      same,
      c.in-Ok.ensures.numbers,
    )

pub log_change-requires-clause-can : goal.log_change-requires-clause-can
log_change-requires-clause-can g c told =
    let fs = c.args.self.now in
    let recorded = c.in-Some-change.is ∙ ap Some (sym c.in-Some-of.ensures.same) in
    let p = c.prepare.new.self in
    let o = c.in-Ok.outcome in
    let running = ap has_stopped c.in-Ok-prepare.ensures.rest ∙ ap has_stopped c.in-Ok.ensures.rest ∙ c.requires.running in
    let same = c.in-Ok-prepare.ensures.held ∙ c.in-Ok.ensures.quiet told in
    let picked = c.in-Some.field-0 in
    let picks = c.in-Some.ensures.picked (tree_of p) (c.in-Ok-prepare.ensures.sound.meant running told).over in
    applies (held fs) (held p) c.args.session c.args.call.now o c.in-Ok.ensures.numbers (c.requires.sound.meant c.requires.running told).whole (c.in-Ok.ensures.decided told) same picked picks c.in-Some-of.payload recorded

-- ---- it isn't made

pub returns-in-Err-log_change-clause-served : goal.returns-in-Err-log_change-clause-served
returns-in-Err-log_change-clause-served g c told =
    let fs = c.args.self.now in
    let recorded = c.in-Some-change.is ∙ ap Some (sym c.in-Some-of.ensures.same) in
    let h = held fs in
    let p = c.prepare.new.self in
    let o = c.in-Ok.outcome in
    let fault = c.in-Err-log_change.fault in
    let after = held c.log_change.new.self in
    let running = ap has_stopped c.in-Ok.ensures.rest ∙ c.requires.running in
    let ready = ap has_stopped c.in-Ok-prepare.ensures.rest ∙ running in
    let quiet = c.in-Ok.ensures.quiet told in
    let same = c.in-Ok-prepare.ensures.held ∙ quiet in
    let picked = c.in-Some.field-0 in
    let picks = c.in-Some.ensures.picked (tree_of p) (c.in-Ok-prepare.ensures.sound.meant ready told).over in
    let fits = c.fits-fits.ensures.exact (c.in-Ok.ensures.sound.meant running told).over ∙ ap (λ (x : Held). is_fitting x o) quiet in
    let a = fails h (held p) c.args.session c.args.call.now o c.in-Ok.ensures.numbers (c.requires.sound.meant c.requires.running told).whole (c.in-Ok.ensures.decided told) same picked picks c.in-Some-of.payload recorded
    c.fits-fits.result c.lacks.result fits c.lacks.ensures c.if-lacks.false after fault (c.in-Err-log_change.ensures.made told) in
    subst (λ (r : Reply). Serves (Some r) h c.args.session c.args.call.now after c.stops-self.result) (sym (c.refused-in-Err-log_change.ensures ∙ ap refused c.errno.ensures))
    (subst (Serves (Some (refused (errno_of fault))) h c.args.session c.args.call.now after) (sym c.stops-self.ensures) a)

pub returns-in-Err-log_change-clause-sound : goal.returns-in-Err-log_change-clause-sound
returns-in-Err-log_change-clause-sound g c =
    let now = c.log_change.new.self in
    let running = c.in-Err-log_change.ensures.stopped ∙ ap has_stopped c.in-Ok-prepare.ensures.rest ∙ ap has_stopped c.in-Ok.ensures.rest ∙ c.requires.running in
    stopped_mounted g.D.Device.tells_bytes _ _ now.log now.world now.room now.base now.going now.has_stopped c.stops-self.result running (λ goes_on. c.in-Err-log_change.ensures.meant (sym c.stops-self.ensures ∙ goes_on))

-- ---- it is made

pub returns-in-Ok-log_change-clause-served : goal.returns-in-Ok-log_change-clause-served
returns-in-Ok-log_change-clause-served g c told =
    let fs = c.args.self.now in
    let recorded = c.in-Some-change.is ∙ ap Some (sym c.in-Some-of.ensures.same) in
    let h = held fs in
    let p = c.prepare.new.self in
    let o = c.in-Ok.outcome in
    let mid = c.log_change.new.self in
    let new = c.turn.new.self in
    let logged = c.in-Ok-log_change.ensures in
    let running = ap has_stopped c.in-Ok.ensures.rest ∙ c.requires.running in
    let ready = ap has_stopped c.in-Ok-prepare.ensures.rest ∙ running in
    let quiet = c.in-Ok.ensures.quiet told in
    let same = c.in-Ok-prepare.ensures.held ∙ quiet in
    let whole = (c.requires.sound.meant c.requires.running told).whole in
    let decided = c.in-Ok.ensures.decided told in
    let picked = c.in-Some.field-0 in
    let picks = c.in-Some.ensures.picked (tree_of p) (c.in-Ok-prepare.ensures.sound.meant ready told).over in
    let fits = c.fits-fits.ensures.exact (c.in-Ok.ensures.sound.meant running told).over ∙ ap (λ (x : Held). is_fitting x o) quiet in
    let room = subst (HasRoom o.caller) (sym logged.places.0) c.in-Ok-prepare.ensures.room in
    let turns = turns_then h (held p) c.args.session c.args.call.now o c.in-Ok.ensures.numbers whole decided same picked picks c.in-Some-of.payload recorded c.fits-fits.result c.lacks.result fits c.lacks.ensures c.if-lacks.false
    c.changed_laws.ensures.changes (held mid) (logged.made told) (room_of mid.world) room in
    let turned = c.turn.ensures.turned (record { over = logged.over told; can = turns; only = logged.lost told }) in
    let a = serves h (held p) c.args.session c.args.call.now o c.in-Ok.ensures.numbers whole decided same picked picks c.in-Some-of.payload recorded c.fits-fits.result c.lacks.result fits c.lacks.ensures c.if-lacks.false
    c.changed_laws.ensures.changes (held mid) (logged.made told) (held new) turned c.requires.alone in
    subst (Serves (Some o.told) h c.args.session c.args.call.now (held new)) (sym (ap has_stopped c.turn.ensures.rest ∙ logged.stopped ∙ ready)) a

pub returns-in-Ok-log_change-clause-sound : goal.returns-in-Ok-log_change-clause-sound
returns-in-Ok-log_change-clause-sound g c =
    let fs = c.args.self.now in
    let recorded = c.in-Some-change.is ∙ ap Some (sym c.in-Some-of.ensures.same) in
    let h = held fs in
    let p = c.prepare.new.self in
    let o = c.in-Ok.outcome in
    let mid = c.log_change.new.self in
    let new = record mid { world = c.turn.new.self.world; room = c.turn.new.self.room } in
    let logged = c.in-Ok-log_change.ensures in
    let sound = c.in-Ok-prepare.ensures.sound in
    let running = ap has_stopped c.in-Ok.ensures.rest ∙ c.requires.running in
    let ready = ap has_stopped c.in-Ok-prepare.ensures.rest ∙ running in
    let based = still_based p.going mid.going p.log mid.log p.base mid.base logged.going logged.blocks logged.epoch (record { slot = ap (λ (b : PointBase). b.slot) logged.base; root = ap (λ (b : PointBase). b.root) logged.base; map = ap (λ (b : PointBase). b.map) logged.base }) (sound.based ready) in
    subst (λ (x : Fs _ _). IsFs x) (sym c.turn.ensures.rest) (record {
      within = λ _. within_still p.log.blocks mid.log.blocks _ _ logged.blocks logged.sectors (sound.within ready);
      parked = λ _. omega (
        arith,
        c.turn.ensures.few,
        ap (λ (r : RoomCounts). r.dropped) c.turn.ensures.room,
        ap (λ (r : RoomCounts). r.dropped) logged.charged,
        ap (λ (x : Fs _ _). x.room.dropped) c.in-Ok-prepare.ensures.rest,
        c.fits-fits.ensures.within (subst (λ (b : Bool). TellsLack b (held p) c.in-Some-of.payload c.fits-fits.result) c.if-lacks.false c.lacks.ensures).fits,
      );
      based = λ _. based;
      between = λ _ none. c.turn.ensures.point ∙ logged.point ∙ sound.between ready (sym logged.going ∙ none);
      drops = λ _. c.turn.ensures.drops;
      meant = λ _ told.
          let quiet = c.in-Ok.ensures.quiet told in
          let same = c.in-Ok-prepare.ensures.held ∙ quiet in
          let m = sound.meant ready told in
          let whole = (c.requires.sound.meant c.requires.running told).whole in
          let decided = c.in-Ok.ensures.decided told in
          let picked = c.in-Some.field-0 in
          let picks = c.in-Some.ensures.picked (tree_of p) m.over in
          let fits = c.fits-fits.ensures.exact (c.in-Ok.ensures.sound.meant running told).over ∙ ap (λ (x : Held). is_fitting x o) quiet in
          let room = subst (HasRoom o.caller) (sym logged.places.0) c.in-Ok-prepare.ensures.room in
          let turns = turns_then h (held p) c.args.session c.args.call.now o c.in-Ok.ensures.numbers whole decided same picked picks c.in-Some-of.payload recorded c.fits-fits.result c.lacks.result fits c.lacks.ensures c.if-lacks.false
          c.changed_laws.ensures.changes (held mid) (logged.made told) (room_of mid.world) room in
          let can : CanTurnOver mid.world (tree_of mid) c.args.session picked.caller c.in-Ok-log_change.lost = record { over = logged.over told; can = turns; only = logged.lost told } in
          let turned = subst (λ (x : Fs _ _). Turns c.args.session picked.caller 0 (held mid) (held x)) c.turn.ensures.rest (c.turn.ensures.turned can) in
          record {
            over = subst (λ (x : Fs _ _). IsOver x.world (tree_of x)) c.turn.ensures.rest (c.turn.ensures.over can);
            whole = whole_then h (held p) c.args.session c.args.call.now o c.in-Ok.ensures.numbers whole decided same picked picks c.in-Some-of.payload recorded c.fits-fits.result c.lacks.result fits c.lacks.ensures c.if-lacks.false
                c.changed_laws.ensures.changes (held mid) (logged.made told) (held new) turned;
            runs = runs_then h (held p) c.args.session c.args.call.now o c.in-Ok.ensures.numbers whole decided same picked picks c.in-Some-of.payload recorded c.fits-fits.result c.lacks.result fits c.lacks.ensures c.if-lacks.false
                c.changed_laws.ensures.changes (held mid) (logged.made told) (held new) turned m.runs;
            stands = still_stands p.going mid.going p.log p.base _ _ logged.going (sound.based ready) (g.met.D.Device.whole (device_of p.blocks) told) (logged.made told).touched m.stands;
          };
    })

-- ---- a call that makes no change

pub returns-in-None-clause-served : goal.returns-in-None-clause-served
returns-in-None-clause-served g c told =
    let fs = c.args.self.now in
    let h = held fs in
    let p = c.prepare.new.self in
    let o = c.in-Ok.outcome in
    let new = c.turn-in-None.new.self in
    let running = ap has_stopped c.in-Ok-prepare.ensures.rest ∙ ap has_stopped c.in-Ok.ensures.rest ∙ c.requires.running in
    let same = c.in-Ok-prepare.ensures.held ∙ c.in-Ok.ensures.quiet told in
    let m = c.in-Ok-prepare.ensures.sound.meant running told in
    let whole = (c.requires.sound.meant c.requires.running told).whole in
    let decided = c.in-Ok.ensures.decided told in
    let picked = c.in-Some.field-0 in
    let picks = c.in-Some.ensures.picked (tree_of p) m.over in
    let turns = turns_now h (held p) c.args.session c.args.call.now o c.in-Ok.ensures.numbers whole decided same picked picks c.in-None.is (room_of p.world) c.in-Ok-prepare.ensures.room in
    let turned = c.turn-in-None.ensures.turned (record { over = m.over; can = turns; only = no_loss limits_written (held p).world m.whole }) in
    let a = serves_told h (held p) c.args.session c.args.call.now o c.in-Ok.ensures.numbers whole decided same picked picks c.in-None.is c.requires.alone (held new) c.nameless-parked.result (c.nameless-parked.ensures.tells (tree_of p) m.over) turned in
    subst (Serves (Some o.told) h c.args.session c.args.call.now (held new)) (sym (ap has_stopped c.turn-in-None.ensures.rest ∙ running)) a

pub returns-in-None-clause-sound : goal.returns-in-None-clause-sound
returns-in-None-clause-sound g c =
    let fs = c.args.self.now in
    let h = held fs in
    let p = c.prepare.new.self in
    let o = c.in-Ok.outcome in
    let new = record p { world = c.turn-in-None.new.self.world; room = c.turn-in-None.new.self.room } in
    let sound = c.in-Ok-prepare.ensures.sound in
    let running = ap has_stopped c.in-Ok-prepare.ensures.rest ∙ ap has_stopped c.in-Ok.ensures.rest ∙ c.requires.running in
    subst (λ (x : Fs _ _). IsFs x) (sym c.turn-in-None.ensures.rest) (record {
      within = sound.within;
      parked = λ _. omega (
        arith,
        c.turn-in-None.ensures.fewer,
        ap (λ (r : RoomCounts). r.dropped) c.turn-in-None.ensures.room,
        c.nameless-parked.ensures.exact,
        sound.parked running,
      );
      based = sound.based;
      between = λ _ none. c.turn-in-None.ensures.point ∙ sound.between running none;
      drops = λ _. c.turn-in-None.ensures.drops;
      meant = λ _ told.
          let same = c.in-Ok-prepare.ensures.held ∙ c.in-Ok.ensures.quiet told in
          let m = sound.meant running told in
          let whole = (c.requires.sound.meant c.requires.running told).whole in
          let decided = c.in-Ok.ensures.decided told in
          let picked = c.in-Some.field-0 in
          let picks = c.in-Some.ensures.picked (tree_of p) m.over in
          let turns = turns_now h (held p) c.args.session c.args.call.now o c.in-Ok.ensures.numbers whole decided same picked picks c.in-None.is (room_of p.world) c.in-Ok-prepare.ensures.room in
          let can : CanTurnOver p.world (tree_of p) c.args.session picked.caller None = record { over = m.over; can = turns; only = no_loss limits_written (held p).world m.whole } in
          let turned = subst (λ (x : Fs _ _). Turns c.args.session picked.caller c.nameless-parked.result (held p) (held x)) c.turn-in-None.ensures.rest (c.turn-in-None.ensures.turned can) in
          let count = c.nameless-parked.ensures.tells (tree_of p) m.over in
          record {
            over = subst (λ (x : Fs _ _). IsOver x.world (tree_of x)) c.turn-in-None.ensures.rest (c.turn-in-None.ensures.over can);
            whole = whole_on h (held p) c.args.session c.args.call.now o c.in-Ok.ensures.numbers whole decided same picked picks c.in-None.is c.requires.alone (held new) c.nameless-parked.result count turned;
            runs = runs_on h (held p) c.args.session c.args.call.now o c.in-Ok.ensures.numbers whole decided same picked picks c.in-None.is c.requires.alone (held new) c.nameless-parked.result count turned m.runs;
            stands = m.stands;
          };
    })
