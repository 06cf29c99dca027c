use Rattle.std.proofs.Common.{ap}
use Rattle.sn_program.proofs.ServeLemmas.{serves_front, serves_well}
use Rattle.sn_program.proofs.serve.serve_from.Goals as goal

pub returns-in-Ok-clause-done : goal.returns-in-Ok-clause-done
returns-in-Ok-clause-done g c = serves_well _ _ _ _ _ _ c.checker_of-checker.ensures _ _ _ _ _ _ _ _ _ c.serve_image-outcome.ensures c.in-Ok.is

pub returns-clause-front : goal.returns-clause-front
returns-clause-front g c = serves_front _ _ _ _ _ _ c.checker_of-checker.ensures _ _ _ _ _ _ _ _ _ c.serve_image-outcome.ensures (ap g.W.Write.contents) c.in-Err.fault c.in-Err.is
