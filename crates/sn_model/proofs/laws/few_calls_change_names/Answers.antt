use Rattle.sn_model.proofs.OtherCallLemmas.{others_keep_names}
use Rattle.sn_model.proofs.laws.few_calls_change_names.Goals as goal

pub returns : goal.returns
returns c = λ limits old new session called answer other step. others_keep_names limits old new session called answer other step
