use Rattle.std.proofs.Common.{rules, refl}
use Rattle.sn_rooted_tree.specs.LookLaws.{looks-itself}
use Rattle.sn_rooted_tree.proofs.LookLemmas.{looks_behind, stays_sound, stood}
use Rattle.sn_rooted_tree.proofs.rooted.RootedTreeBelow.node.Goals as goal

pub returns-in-Some-clause-left : goal.returns-in-Some-clause-left
returns-in-Some-clause-left g c = (c.requires, (looks-itself g.D.Device.tells_bytes _ _ _ _, refl), λ told. refl)

pub returns-in-Some-clause-cause : goal.returns-in-Some-clause-cause
returns-in-Some-clause-cause g c = c.in-Some.is

pub returns-clause-left : goal.returns-clause-left
returns-clause-left g c = (
  stays_sound g.D.Device.tells_bytes _ _ _ _ c.args.self.now.root.now.limits c.args.self.now.root.now.inode_file c.seen_node-answer.ensures.counts.sectors c.seen_node-answer.ensures.same c.requires,
  (looks_behind g.D.Device.tells_bytes _ _ _ _ _ _ _ c.seen_node-answer.result c.in_default.is c.fault_of-self.ensures c.seen_node-answer.ensures.counts c.seen_node-answer.ensures.same (λ told. c.seen_node-answer.ensures.damaged told (c.requires told)), refl),
  search rules,
)

pub returns-clause-cause : goal.returns-clause-cause
returns-clause-cause g c = stood c.seen_node-answer.result _ c.fault_of-self.ensures

pub returns-clause-found : goal.returns-clause-found
returns-clause-found g c told = c.seen_node-answer.ensures.found told (c.requires told)
