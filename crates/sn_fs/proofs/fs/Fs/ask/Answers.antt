use Rattle.std.proofs.Common.{Bool, Err, Ok, false, sym, ap, subst, ◌∙◌}
use Rattle.sn_held.specs.Held.{Held}
use Rattle.sn_model.specs.declared.call.Event.TheVariants.{Call}
use Rattle.sn_model.specs.declared.reply.Reply.{Reply}
use Rattle.sn_model.specs.Machine.{refused}
use Rattle.sn_events.specs.Answers.{Answers, AsksFirst}
use Rattle.sn_events.specs.Pointing.{Finishes, errno_of_point}
use Rattle.sn_events.specs.Serving.{reply_to}
use Rattle.sn_events.proofs.AskLemmas.{asked_after_finish, asked_cut, decided_behind}
use Rattle.sn_events.proofs.CallLemmas.{undecided_serves}
use Rattle.sn_fs.specs.Filesystem.{has_stopped, held}
use Rattle.sn_fs.proofs.fs.Fs.ask.Goals as goal

pub returns-in-Err-clause-answered : goal.returns-in-Err-clause-answered
returns-in-Err-clause-answered g c told =
    let h = held c.args.self.now in
    let e = Call c.args.session c.args.call.now in
    let new = held c.decide.new.self in
    let stopped = has_stopped c.decide.new.self in
    subst (λ (r : Reply). Answers e r h c.args.self.now.has_stopped new stopped) (sym c.reply_of.ensures)
    (subst (λ (b : Bool). Answers e (reply_to c.in-Err.fault) h b new stopped) (sym c.requires.running)
    (subst (λ (b : Bool). Answers e (reply_to c.in-Err.fault) h false new b) (sym (ap has_stopped c.in-Err.ensures.rest ∙ c.requires.running))
    (λ s m. (undecided_serves h new c.args.session c.args.call.now c.in-Err.fault (c.in-Err.ensures.undecided told) s m).answers)))

-- the point in progress was cut off
pub returns-in-Err-finish-clause-answered : goal.returns-in-Err-finish-clause-answered
returns-in-Err-finish-clause-answered g c told =
    let h = held c.args.self.now in
    let e = Call c.args.session c.args.call.now in
    let new = held c.finish.new.self in
    let stopped = has_stopped c.finish.new.self in
    let fault = c.in-Err-finish.fault in
    let asked : AsksFirst h c.args.session c.args.call.now = record { asks = c.requires.asks; outcome = c.in-Ok.outcome; decided = c.in-Ok.ensures.decided told } in
    let finishes = subst (λ (x : Held). Finishes (Err fault) x new) (c.in-Ok.ensures.quiet told) (c.in-Err-finish.ensures.finishes told) in
    subst (λ (r : Reply). Answers e r h c.args.self.now.has_stopped new stopped) (sym (c.refused.ensures ∙ ap refused c.errno_of.ensures))
    (subst (λ (b : Bool). Answers e (refused (errno_of_point fault)) h b new stopped) (sym c.requires.running)
    (subst (λ (b : Bool). Answers e (refused (errno_of_point fault)) h false new b) (sym c.in-Err-finish.ensures.stopped)
    (asked_cut h new c.args.session c.args.call.now fault asked (c.requires.sound.meant c.requires.running told).whole finishes)))

pub ask_between-requires-clause-decided : goal.ask_between-requires-clause-decided
ask_between-requires-clause-decided g c told =
    let h = held c.args.self.now in
    let fin = held c.finish.new.self in
    let finishes = subst (λ (x : Held). Finishes (Ok tt) x fin) (c.in-Ok.ensures.quiet told) (c.in_default.ensures.finishes told) in
    decided_behind h fin c.args.session c.args.call.now c.in-Ok.outcome (c.requires.sound.meant c.requires.running told).runs finishes (c.in-Ok.ensures.decided told)

pub returns-clause-answered : goal.returns-clause-answered
returns-clause-answered g c told =
    let h = held c.args.self.now in
    let e = Call c.args.session c.args.call.now in
    let fin = held c.finish.new.self in
    let new = held c.ask_between.new.self in
    let reply = c.ask_between.result in
    let stopped = has_stopped c.ask_between.new.self in
    let asked : AsksFirst h c.args.session c.args.call.now = record { asks = c.requires.asks; outcome = c.in-Ok.outcome; decided = c.in-Ok.ensures.decided told } in
    let finishes = subst (λ (x : Held). Finishes (Ok tt) x fin) (c.in-Ok.ensures.quiet told) (c.in_default.ensures.finishes told) in
    subst (λ (b : Bool). Answers e reply h b new stopped) (sym c.requires.running)
    (asked_after_finish h fin new c.args.session c.args.call.now reply stopped asked finishes (c.ask_between.ensures.answered told))
