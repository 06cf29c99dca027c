use Rattle.sn_model.proofs.ExampleLemmas.{answers, settles}
use Rattle.sn_model.proofs.laws.example_holds.Goals as goal

pub returns-clause-settles : goal.returns-clause-settles
returns-clause-settles c = settles

pub returns-clause-answers : goal.returns-clause-answers
returns-clause-answers c = answers
