use Rattle.sn_program.proofs.AnswerLemmas.{begins_none, on_err}
use Rattle.sn_program.proofs.command.run_on.Goals as goal

pub returns-in_err-device-clause-front : goal.returns-in_err-device-clause-front
returns-in_err-device-clause-front g c = on_err c.from_residual-in_err-device.result (begins_none (g.W.Write.contents c.args.out.now))
