use Rattle.std.proofs.Common.{◌≡◌, ◌∙◌, ◌+◌, ◌++◌, ◌∷◌, [], ap, sym, take, rules}
use Rattle.std.proofs.lemmas.List.{take_more}
use Rattle.sn_model.specs.declared.call.Event.{Event}
use Rattle.sn_plain_world.specs.PlainRuns.{PlainStep}
use Rattle.sn_caller.proofs.StepLemmas.{run_more}
use Rattle.sn_plain_world.proofs.plain.answer.Goals as goal

pub loop-event-preserved : goal.loop-event-preserved
loop-event-preserved c =
    let e = c.event-item.result in
    let events : take (c.loop-event.event-index + 1) c.args.events.now ≡ take c.loop-event.event-index c.args.events.now ++ e ∷ [] = take_more c.args.events.now c.loop-event.event-index e c.loop-event-test.true ∙ ap (λ (x : Event). take c.loop-event.event-index c.args.events.now ++ x ∷ []) (sym c.event-item.is) in
    let more = run_more PlainStep _ _ _ _ _ e c.answer-reply.result c.loop-event.invariant.run c.answer-reply.ensures.step in
    record {
      run = rw (events, c.push_reserved.ensures.items) more;
      whole = c.answer-reply.ensures.whole;
      count = search rules;
      room = search rules;
    }
