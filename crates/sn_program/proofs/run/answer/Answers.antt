use Rattle.sn_run.proofs.CauseLemmas.{causes}
use Rattle.sn_program.proofs.run.answer.Goals as goal

pub returns-clause-run : goal.returns-clause-run
returns-clause-run g c = λ told.
    let ran = c.run-ran.result in
    record {
      runs = c.run-ran.ensures.runs told;
      machine = c.run-ran.ensures.machine told;
      unfit = c.run-ran.ensures.unfit told;
      causes = λ same. causes c.args.events.now ran.replies.items (g.D.Device.disk c.args.device) (g.D.Device.disk ran.device) (g.D.Device.status c.args.device) (g.D.Device.status ran.device) same ran.end (c.run-ran.ensures.runs told);
    }
