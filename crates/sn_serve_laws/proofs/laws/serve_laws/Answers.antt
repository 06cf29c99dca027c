use Rattle.sn_serve_laws.proofs.LeftOut.{chmod_left_out, chown_left_out}
use Rattle.sn_serve_laws.proofs.laws.serve_laws.Goals as goal

pub returns-clause-chmod : goal.returns-clause-chmod
returns-clause-chmod c = chmod_left_out

pub returns-clause-chown : goal.returns-clause-chown
returns-clause-chown c = chown_left_out
