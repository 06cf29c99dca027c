use Rattle.std.proofs.Common.{[], refl, sym, subst}
use Rattle.std.proofs.lemmas.Result.{on_ok_weaker}
use Rattle.sn_device.specs.Disk.{reads}
use Rattle.sn_block.specs.Lending.{device_of}
use Rattle.sn_layout_node.specs.Inode.{IsContent}
use Rattle.sn_layout_node.specs.declared.content.Content.{Content}
use Rattle.sn_ondisk.specs.Trees.{store_of}
use Rattle.sn_image.specs.Contents.{content_reach}
use Rattle.sn_image.specs.Names.{names_by}
use Rattle.sn_sound.specs.Faults.{IsContentFault}
use Rattle.sn_marks.specs.Marks.{Marks}
use Rattle.sn_marks.proofs.MarkLemmas.{marks_none}
use Rattle.sn_marks.proofs.WalkLemmas.{told_weaker}
use Rattle.sn_check_root.specs.Rules.{IsSoundContent, IsWrong}
use Rattle.sn_check_root.proofs.InodeLemmas.{inline_sound, whole_blocks}
use Rattle.sn_check_root.proofs.contents.check_content.Goals as goal

pub returns-in-Inline-clause-marks : goal.returns-in-Inline-clause-marks
returns-in-Inline-clause-marks g c told =
    let s = store_of (reads (g.D.Device.disk (device_of c.args.blocks.now))) in
    subst (λ (it : Content). Marks c.args.root.now.geometry c.args.root.now.bit (content_reach s it) c.args.map.now c.args.map.now) (sym c.in-Inline.is)
    (marks_none c.args.root.now.geometry c.args.root.now.bit [] c.args.map.now (λ x. refl))

pub returns-in-Inline-clause-sound : goal.returns-in-Inline-clause-sound
returns-in-Inline-clause-sound g c told =
    let s = store_of (reads (g.D.Device.disk (device_of c.args.blocks.now))) in
    subst (λ (it : Content). IsSoundContent c.args.limits.now s c.args.inode.now.kind it) (sym c.in-Inline.is)
    (inline_sound c.args.limits.now s c.args.inode.now.kind _ (subst (IsContent c.args.limits.now c.args.inode.now.kind) c.in-Inline.is c.requires.content))

pub check_tree-requires : goal.check_tree-requires
check_tree-requires g c = record {
  whole = λ of. whole_blocks c.args.limits.now c.args.inode.now.kind c.args.inode.now.content _ c.requires.content c.in-Tree.is of;
  words = c.requires.words;
  room = c.requires.room;
}

pub returns-in-Tree-clause-marks : goal.returns-in-Tree-clause-marks
returns-in-Tree-clause-marks g c told =
    let s = store_of (reads (g.D.Device.disk (device_of c.args.blocks.now))) in
    on_ok_weaker c.check_tree.result (λ marks. subst (λ (it : Content). Marks c.args.root.now.geometry c.args.root.now.bit (content_reach s it) c.args.map.now c.check_tree.new.map) (sym c.in-Tree.is) marks) (c.check_tree.ensures.marks told)

pub returns-in-Tree-clause-sound : goal.returns-in-Tree-clause-sound
returns-in-Tree-clause-sound g c told =
    let s = store_of (reads (g.D.Device.disk (device_of c.args.blocks.now))) in
    on_ok_weaker c.check_tree.result (λ sound. subst (λ (it : Content). IsSoundContent c.args.limits.now s c.args.inode.now.kind it) (sym c.in-Tree.is) sound) (c.check_tree.ensures.sound told)

pub returns-in-Tree-clause-fault : goal.returns-in-Tree-clause-fault
returns-in-Tree-clause-fault g c told =
    let s = store_of (reads (g.D.Device.disk (device_of c.args.blocks.now))) in
    let Whole = λ (it : Content). IsWrong c.args.root.now.geometry c.args.root.now.bit (content_reach s it) c.args.map.now (IsContentFault c.args.limits.now s c.args.inode.now.kind it (names_by s c.args.inode.now.kind it) c.args.top) in
    told_weaker c.check_tree.result _ (Whole c.args.inode.now.content)
    (λ damage block wrong. subst (λ (it : Content). Whole it damage block) (sym c.in-Tree.is) wrong)
    (c.check_tree.ensures.fault told)
