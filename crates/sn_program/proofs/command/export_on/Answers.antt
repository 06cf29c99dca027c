use Rattle.sn_export_walk.proofs.Ends.{begins_nothing}
use Rattle.sn_program.proofs.AnswerLemmas.{on_err}
use Rattle.sn_program.proofs.command.export_on.Goals as goal

pub returns-in_err-on_file-clause-front : goal.returns-in_err-on_file-clause-front
returns-in_err-on_file-clause-front g c = on_err c.from_residual.result (begins_nothing (g.W.Write.contents c.args.out.now))
