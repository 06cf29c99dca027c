use Rattle.std.proofs.Common.{rules, refl}
use Rattle.sn_rooted_tree.specs.LookLaws.{looks-itself}
use Rattle.sn_rooted_tree.proofs.LookLemmas.{looks_aside, stood}
use Rattle.sn_rooted_tree.proofs.rooted.RootedTreeKeepsNames.keep_name.Goals as goal

pub returns-in-Some-clause-left : goal.returns-in-Some-clause-left
returns-in-Some-clause-left g c = (c.requires, (looks-itself g.D.Device.tells_bytes _ _ _ _, refl), λ told. refl)

pub returns-in-Some-clause-cause : goal.returns-in-Some-clause-cause
returns-in-Some-clause-cause g c = c.in-Some.is

pub returns-clause-left : goal.returns-clause-left
returns-clause-left g c = (
  search rules,
  (looks_aside g.D.Device.tells_bytes _ _ _ _ _ c.kept_name-answer.result c.in_default.is c.fault_of-self.ensures c.kept_name-answer.ensures.fault, refl),
  search rules,
)

pub returns-clause-cause : goal.returns-clause-cause
returns-clause-cause g c = stood c.kept_name-answer.result _ c.fault_of-self.ensures
