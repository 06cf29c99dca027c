use Rattle.std.proofs.Common.{rules, ◌≡◌, Option, IfOk, refl, subst}
use Rattle.sn_device.specs.Disk.{reads}
use Rattle.sn_block.specs.Lending.{device_of}
use Rattle.sn_walk.specs.declared.view.Attributes.{Attributes}
use Rattle.sn_rooted.specs.Roots.{tree_on}
use Rattle.sn_rooted_tree.specs.LookLaws.{looks-itself}
use Rattle.sn_rooted_tree.proofs.LookLemmas.{looks_behind, stays_sound, stood}
use Rattle.sn_rooted_tree.proofs.SeenLemmas.{root_tree, viewed_seen}
use Rattle.sn_rooted_tree.proofs.listing.RootedTreeHasContents.attributes.Goals as goal

pub returns-in-Some-clause-left : goal.returns-in-Some-clause-left
returns-in-Some-clause-left g c = (c.requires, (looks-itself g.D.Device.tells_bytes _ _ _ _, refl), λ told. refl)

pub returns-in-Some-clause-cause : goal.returns-in-Some-clause-cause
returns-in-Some-clause-cause g c = c.in-Some.is

pub returns-clause-left : goal.returns-clause-left
returns-clause-left g c = (
  stays_sound g.D.Device.tells_bytes _ _ _ _ c.args.self.now.root.now.limits c.args.self.now.root.now.inode_file c.attributes-answer.ensures.counts.sectors c.attributes-answer.ensures.same c.requires,
  (looks_behind g.D.Device.tells_bytes _ _ _ _ _ _ _ c.attributes-answer.result c.in_default.is c.fault_of-self.ensures c.attributes-answer.ensures.counts c.attributes-answer.ensures.same (λ told. c.attributes-answer.ensures.damaged told (c.requires told)), refl),
  search rules,
)

pub returns-clause-cause : goal.returns-clause-cause
returns-clause-cause g c = stood c.attributes-answer.result _ c.fault_of-self.ensures

pub returns-clause-found : goal.returns-clause-found
returns-clause-found g c told =
    let self = c.args.self.now in
    let disk = g.D.Device.disk (device_of self.blocks.now) in
    let whole = root_tree self.root.now.limits _ (reads disk) self.root.now.inode_file (g.met.D.Device.whole (device_of self.blocks.now) told) (g.met.D.Device.count (device_of self.blocks.now) told) (c.requires told) in
    subst (λ (a : Option Attributes). IfOk c.attributes-answer.result (λ found. found ≡ a)) (viewed_seen (tree_on self.blocks.now self.root.now.inode_file) c.args.number whole) (c.attributes-answer.ensures.found told (c.requires told))
