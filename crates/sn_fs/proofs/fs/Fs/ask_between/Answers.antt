use Rattle.std.proofs.Common.{Bool, Option, false, sym, ap, subst, ◌∙◌}
use Rattle.sn_held.specs.Held.{Going}
use Rattle.sn_cp_progress.specs.Meaning.{RunsWith}
use Rattle.sn_model.specs.declared.call.Event.TheVariants.{Call}
use Rattle.sn_model.specs.declared.reply.Errno.TheVariants.{Enospc}
use Rattle.sn_model.specs.declared.reply.Reply.{Reply}
use Rattle.sn_model.specs.Machine.{refused}
use Rattle.sn_events.specs.Answers.{Answers, AsksFirst}
use Rattle.sn_events.specs.Pointing.{errno_of_point}
use Rattle.sn_events.proofs.AskLemmas.{asked_at_once, asked_behind_room, asked_without_room, decided_with_room, is_to_ask, lacks_room, room_unmade}
use Rattle.sn_fs.specs.Filesystem.{has_stopped, held}
use Rattle.sn_fs.proofs.fs.Fs.ask_between.Goals as goal

pub point_for-requires-clause-asked : goal.point_for-requires-clause-asked
point_for-requires-clause-asked g c told =
    let h = held c.args.self.now in
    let m = c.requires.sound.meant c.requires.running told in
    record { session = c.args.session; call = c.args.call.now; asks = c.requires.asks; to = is_to_ask h c.args.session c.args.call.now c.args.outcome (c.requires.decided told) (sym (c.has_room_for.ensures m.over) ∙ c.if-has_room_for.true) }

pub returns-then-has_room_for-clause-answered : goal.returns-then-has_room_for-clause-answered
returns-then-has_room_for-clause-answered g c told =
    let h = held c.args.self.now in
    let new = c.point_for.new.self in
    let m = c.requires.sound.meant c.requires.running told in
    let to = is_to_ask h c.args.session c.args.call.now c.args.outcome (c.requires.decided told) (sym (c.has_room_for.ensures m.over) ∙ c.if-has_room_for.true) in
    asked_at_once h (held new) c.args.session c.args.call.now c.point_for.result (has_stopped new) c.requires.between (c.point_for.ensures.answered told c.args.session c.args.call.now c.requires.asks to)

pub returns-in-Err-clause-answered : goal.returns-in-Err-clause-answered
returns-in-Err-clause-answered g c told =
    let h = held c.args.self.now in
    let e = Call c.args.session c.args.call.now in
    let new = held c.make_point.new.self in
    let stopped = has_stopped c.make_point.new.self in
    let fault = c.in-Err.fault in
    let m = c.requires.sound.meant c.requires.running told in
    let asked : AsksFirst h c.args.session c.args.call.now = record { asks = c.requires.asks; outcome = c.args.outcome; decided = c.requires.decided told } in
    let over = lacks_room h c.args.session c.args.call.now c.args.outcome (c.requires.decided told) (sym (c.has_room_for.ensures m.over) ∙ c.if-has_room_for.false) in
    subst (λ (r : Reply). Answers e r h false new stopped) (sym (c.refused.ensures ∙ ap refused c.errno_of.ensures))
    (subst (λ (b : Bool). Answers e (refused (errno_of_point fault)) h false new b) (sym c.in-Err.ensures.stopped)
    (room_unmade h new c.args.session c.args.call.now fault m.whole c.requires.between asked over (c.in-Err.ensures.points told)))

pub returns-then-not-has_room_for-clause-answered : goal.returns-then-not-has_room_for-clause-answered
returns-then-not-has_room_for-clause-answered g c told =
    let h = held c.args.self.now in
    let e = Call c.args.session c.args.call.now in
    let mid = held c.make_point.new.self in
    let o = c.args.outcome in
    let m = c.requires.sound.meant c.requires.running told in
    let over = lacks_room h c.args.session c.args.call.now o (c.requires.decided told) (sym (c.has_room_for.ensures m.over) ∙ c.if-has_room_for.false) in
    let ready = subst (λ (p : Option Going). RunsWith p h h.world) c.requires.between m.runs in
    let points = c.in_default.ensures.points told in
    let still = decided_with_room h mid c.args.session c.args.call.now o ready m.whole points (c.requires.decided told) in
    let over_still = lacks_room mid c.args.session c.args.call.now o still (sym (c.has_room_for-2.ensures (c.make_point.ensures.sound.meant c.in_default.ensures.stopped told).over) ∙ c.if-not-has_room_for.true) in
    subst (λ (r : Reply). Answers e r h false mid (has_stopped c.make_point.new.self)) (sym c.refused-then-not-has_room_for.ensures)
    (subst (λ (b : Bool). Answers e (refused Enospc) h false mid b) (sym c.in_default.ensures.stopped)
    (asked_without_room h mid c.args.session c.args.call.now m.whole c.requires.between c.requires.asks over points over_still))

pub point_for-requires-2-clause-asked : goal.point_for-requires-2-clause-asked
point_for-requires-2-clause-asked g c told =
    let h = held c.args.self.now in
    let mid = held c.make_point.new.self in
    let o = c.args.outcome in
    let m = c.requires.sound.meant c.requires.running told in
    let ready = subst (λ (p : Option Going). RunsWith p h h.world) c.requires.between m.runs in
    let still = decided_with_room h mid c.args.session c.args.call.now o ready m.whole (c.in_default.ensures.points told) (c.requires.decided told) in
    let fits = sym (c.has_room_for-2.ensures (c.make_point.ensures.sound.meant c.in_default.ensures.stopped told).over) ∙ c.if-not-has_room_for.false in
    record { session = c.args.session; call = c.args.call.now; asks = c.requires.asks; to = is_to_ask mid c.args.session c.args.call.now o still fits }

pub returns-clause-answered : goal.returns-clause-answered
returns-clause-answered g c told =
    let h = held c.args.self.now in
    let mid = held c.make_point.new.self in
    let new = c.point_for-2.new.self in
    let o = c.args.outcome in
    let m = c.requires.sound.meant c.requires.running told in
    let over = lacks_room h c.args.session c.args.call.now o (c.requires.decided told) (sym (c.has_room_for.ensures m.over) ∙ c.if-has_room_for.false) in
    let ready = subst (λ (p : Option Going). RunsWith p h h.world) c.requires.between m.runs in
    let points = c.in_default.ensures.points told in
    let still = decided_with_room h mid c.args.session c.args.call.now o ready m.whole points (c.requires.decided told) in
    let fits = sym (c.has_room_for-2.ensures (c.make_point.ensures.sound.meant c.in_default.ensures.stopped told).over) ∙ c.if-not-has_room_for.false in
    let to = is_to_ask mid c.args.session c.args.call.now o still fits in
    asked_behind_room h mid (held new) c.args.session c.args.call.now c.point_for-2.result (has_stopped new) m.whole c.requires.between c.requires.asks over points (c.point_for-2.ensures.answered told c.args.session c.args.call.now c.requires.asks to)
