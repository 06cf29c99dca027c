use Rattle.sn_program.proofs.AnswerLemmas.{quiet_where}
use Rattle.sn_program.proofs.import.import_from.Goals as goal

pub returns-clause-quiet : goal.returns-clause-quiet
returns-clause-quiet g c =
    quiet_where c.ending_of.result c.import_image-outcome.result.outcome c.ending_of.ensures.done c.ending_of.ensures.whole c.import_image-outcome.ensures.quiet (λ same. same)
