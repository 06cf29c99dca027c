use Rattle.sn_program.proofs.AnswerLemmas.{verdict_begins}
use Rattle.sn_program.proofs.checking.check_on.Goals as goal

pub returns-in_default-clause-front : goal.returns-in_default-clause-front
returns-in_default-clause-front g c = verdict_begins (g.W.Write.contents c.args.out.now)

pub returns-in-Err-clause-front : goal.returns-in-Err-clause-front
returns-in-Err-clause-front g c = verdict_begins (g.W.Write.contents c.args.out.now)
