use Rattle.std.proofs.Common.{◌≡◌, IsTrue, ◌∙◌, ◌+◌, ◌++◌, ◌∷◌, [], List, ap, sym, subst, take, rules, arith}
use Rattle.std.proofs.lemmas.List.{take_more, take_all}
use Rattle.sn_events.specs.Answers.{Answers}
use Rattle.sn_model.specs.declared.call.Event.{Event}
use Rattle.sn_model.specs.declared.reply.Reply.{Reply}
use Rattle.sn_run.specs.Runs.{AnswersAll}
use Rattle.sn_run.specs.Servers.{IsServer, is_stopped, standing}
use Rattle.sn_run.proofs.RunLemmas.{answers_more, answers_none}
use Rattle.sn_run.proofs.running.answer_all.Given.{Over}
use Rattle.sn_run.proofs.running.answer_all.Goals as goal
use Rattle.sn_run.proofs.running.answer_all.Goals.{After-answered, in-Call, in-Step, in-Restart}

pub loop-event-init : goal.loop-event-init
loop-event-init g c =
    let h = standing c.args.server in
    let b = is_stopped c.args.server in
    record {
      answered = λ told. subst (λ (rs : List Reply). AnswersAll [] rs h b h b) (sym c.requires.empty) (answers_none h b);
      sound = c.requires.sound;
      count = search rules;
      room = c.requires.room;
    }

-- the reply to the event, and what the server is after it
went : (g : Over) (c : After-answered g) → IsTrue g.D.Device.tells_bytes → Answers c.event-item.result c.match-event.reply (standing c.loop-event.server) (is_stopped c.loop-event.server) (standing c.match-event.server) (is_stopped c.match-event.server)
went g c told = elim c.match-event.branch [
  | in-Call w ↦ rw (w.reply-is, w.server-is, w.in-Call.is) (w.call-reply.ensures.answered told)
  | in-Step w ↦ rw (w.reply-is, w.server-is, w.in-Step.is) (w.step-reply.ensures.answered told)
  | in-Restart w ↦ rw (w.reply-is, w.server-is, w.in-Restart.is) (w.restart-reply.ensures.answered told)
]

stays : (g : Over) (c : After-answered g) → IsServer c.match-event.server
stays g c = elim c.match-event.branch [
  | in-Call w ↦ rw w.server-is w.call-reply.ensures.sound
  | in-Step w ↦ rw w.server-is w.step-reply.ensures.sound
  | in-Restart w ↦ rw w.server-is w.restart-reply.ensures.sound
]

pub loop-event-preserved : goal.loop-event-preserved
loop-event-preserved g c =
    let e = c.event-item.result in
    let events : take (c.loop-event.event-index + 1) c.args.events.now ≡ take c.loop-event.event-index c.args.events.now ++ e ∷ [] = take_more c.args.events.now c.loop-event.event-index e c.loop-event-test.true ∙ ap (λ (x : Event). take c.loop-event.event-index c.args.events.now ++ x ∷ []) (sym c.event-item.is) in
    record {
      answered = λ told.
          let more = answers_more _ _ e c.match-event.reply _ _ _ _ _ _ (c.loop-event.invariant.answered told) (went g c told) in
          rw (events, c.push_reserved.ensures.items) more;
      sound = stays g c;
      count = search rules;
      room = search rules;
    }

pub returns-clause-answered : goal.returns-clause-answered
returns-clause-answered g c told =
    let all : take c.loop-event.event-index c.args.events.now ≡ c.args.events.now = take_all c.loop-event.event-index c.args.events.now (omega arith) in
    subst (λ (es : List Event). AnswersAll es c.loop-event.replies.items (standing c.args.server) (is_stopped c.args.server) (standing c.loop-event.server) (is_stopped c.loop-event.server)) all (c.loop-event.invariant.answered told)
