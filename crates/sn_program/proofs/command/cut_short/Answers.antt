use Rattle.std.proofs.Common.{List, inl, refl, subst, sym}
use Rattle.std.specs.Prelude.{None}
use Rattle.sn_model.specs.declared.call.Event.{Event}
use Rattle.sn_program.specs.Answers.{AreEventsOf}
use Rattle.sn_program.proofs.AnswerLemmas.{on_err}
use Rattle.sn_program.proofs.CopyLemmas.{leaves}
use Rattle.sn_output.proofs.OutputLemmas.{keeps_same}
use Rattle.sn_program.proofs.command.cut_short.Goals as goal

pub returns-in_err-events-clause-front : goal.returns-in_err-events-clause-front
returns-in_err-events-clause-front g c = on_err c.from_residual.result (inl (keeps_same (g.W.Write.contents c.args.out.now) (g.W.Write.contents c.args.out.now) refl))

pub returns-in-Ok-clause-done : goal.returns-in-Ok-clause-done
returns-in-Ok-clause-done g c =
    let from = c.in_ok-events.ensures in
    let came = c.answer_cut-end in
    let read = subst (λ (events : List Event). AreEventsOf None events) (sym c.as_slice.ensures.value) from.read in
    leaves _ _ _ c.args.fill came.result.end c.as_slice.result.now came.result.replies.items _ came.result.written c.told_of.result (g.W.Write.contents c.args.out.now) (g.W.Write.contents came.new.out)
    from.whole from.status read came.ensures.run came.ensures.written came.ensures.front came.ensures.faults c.told_of.ensures
