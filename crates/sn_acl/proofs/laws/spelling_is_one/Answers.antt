use Rattle.sn_acl.proofs.Spelling.{spells, spelled}
use Rattle.sn_acl.proofs.laws.spelling_is_one.Goals as goal

pub returns : goal.returns
returns c = λ text es. (spells text es, λ is. spelled text es is.0 is.1)
