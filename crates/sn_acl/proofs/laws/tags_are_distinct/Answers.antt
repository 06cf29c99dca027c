use Rattle.sn_acl.proofs.Distinct.{distinct}
use Rattle.sn_acl.proofs.laws.tags_are_distinct.Goals as goal

pub returns : goal.returns
returns c = λ es valid. distinct es valid.canonical
