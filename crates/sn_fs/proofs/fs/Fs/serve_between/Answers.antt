use Rattle.std.proofs.Common.{Bool, Err, Ok, false, refl, sym, ap, subst, ◌∙◌}
use Rattle.sn_held.specs.Held.{Held}
use Rattle.sn_model.specs.declared.call.Event.TheVariants.{Call}
use Rattle.sn_model.specs.declared.reply.Errno.TheVariants.{Enospc}
use Rattle.sn_model.specs.declared.reply.Reply.{Reply}
use Rattle.sn_model.specs.Machine.{refused}
use Rattle.sn_model.specs.declared.outcome.AskedPoint.TheVariants.{Plain}
use Rattle.sn_events.specs.Answers.{Answers}
use Rattle.sn_fs.specs.Filesystem.{has_stopped, held}
use Rattle.sn_events.specs.Pointing.{Points, errno_of_point}
use Rattle.sn_events.proofs.PointLemmas.{call_behind, call_unpointed, call_without_room}
use Rattle.sn_fs.proofs.fs.Fs.serve_between.Goals as goal

pub make_point-requires-clause-between : goal.make_point-requires-clause-between
make_point-requires-clause-between g c = c.serve.ensures.point ∙ c.requires.between

pub make_point-requires-clause-asked : goal.make_point-requires-clause-asked
make_point-requires-clause-asked g c told = record { can = tt; whole = (c.serve.ensures.sound.meant (c.in_default.ensures.running) told).whole; other = refl }

pub returns-in-Some-clause-answered : goal.returns-in-Some-clause-answered
returns-in-Some-clause-answered g c told = λ s m. (c.in-Some.ensures.served told s m).answers

pub returns-in-Err-clause-answered : goal.returns-in-Err-clause-answered
returns-in-Err-clause-answered g c told =
    let h = held c.args.self.now in
    let e = Call c.args.session c.args.call.now in
    let new = held c.make_point.new.self in
    let stopped = has_stopped c.make_point.new.self in
    let fault = c.in-Err.fault in
    let lacks = c.in_default.ensures.served told in
    let points = subst (λ (x : Held). Points (Err fault) Plain x new) lacks.1 (c.in-Err.ensures.points told) in
    let a = call_unpointed h new c.args.session c.args.call.now fault lacks.2 (c.requires.sound.meant c.requires.running told).whole c.requires.between lacks.0 points in
    subst (λ (r : Reply). Answers e r h false new stopped) (sym (c.refused.ensures ∙ ap refused c.errno_of.ensures))
    (subst (λ (b : Bool). Answers e (refused (errno_of_point fault)) h false new b) (sym c.in-Err.ensures.stopped) a)

pub returns-in-Some-serve-clause-answered : goal.returns-in-Some-serve-clause-answered
returns-in-Some-serve-clause-answered g c told =
    let h = held c.args.self.now in
    let mid = held c.make_point.new.self in
    let new = c.serve-2.new.self in
    let lacks = c.in_default.ensures.served told in
    let points = subst (λ (x : Held). Points (Ok tt) Plain x mid) lacks.1 (c.in_default-make_point.ensures.points told) in
    call_behind h mid (held new) c.args.session c.args.call.now c.in-Some-serve.reply (has_stopped new) (c.requires.sound.meant c.requires.running told).whole c.requires.between lacks.0 points (c.in-Some-serve.ensures.served told)

pub returns-in-None-clause-answered : goal.returns-in-None-clause-answered
returns-in-None-clause-answered g c told =
    let h = held c.args.self.now in
    let e = Call c.args.session c.args.call.now in
    let mid = held c.make_point.new.self in
    let new = held c.serve-2.new.self in
    let stopped = has_stopped c.serve-2.new.self in
    let lacks = c.in_default.ensures.served told in
    let points = subst (λ (x : Held). Points (Ok tt) Plain x mid) lacks.1 (c.in_default-make_point.ensures.points told) in
    let whole = (c.make_point.ensures.sound.meant c.in_default-make_point.ensures.stopped told).whole in
    let a = call_without_room c.payloads_fit.ensures h mid new c.args.session c.args.call.now (c.requires.sound.meant c.requires.running told).whole whole c.requires.between lacks.0 points (c.in-None.ensures.served told) in
    subst (λ (r : Reply). Answers e r h false new stopped) (sym c.refused-in-None.ensures) (subst (λ (b : Bool). Answers e (refused Enospc) h false new b) (sym c.in-None.ensures.running) a)
