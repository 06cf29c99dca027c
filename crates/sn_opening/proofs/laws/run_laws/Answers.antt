use Rattle.sn_opening.specs.Grounds.{OpensOn}
use Rattle.sn_opening.proofs.MomentLemmas.{runs_leave}
use Rattle.sn_opening.proofs.laws.run_laws.Goals as goal

pub returns : goal.returns
returns c = record { states = λ g. runs_leave (OpensOn g) }
