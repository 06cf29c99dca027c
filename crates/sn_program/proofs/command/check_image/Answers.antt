use Rattle.sn_program.proofs.AnswerLemmas.{on_err, verdict_begins}
use Rattle.sn_program.proofs.command.check_image.Goals as goal

pub returns-in_err-device-clause-front : goal.returns-in_err-device-clause-front
returns-in_err-device-clause-front g c = on_err c.from_residual.result (verdict_begins (g.W.Write.contents c.args.out.now))
