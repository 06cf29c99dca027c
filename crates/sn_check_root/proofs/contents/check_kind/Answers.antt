use Rattle.std.proofs.Common.{sym, subst}
use Rattle.sn_device.specs.Disk.{reads}
use Rattle.sn_block.specs.Lending.{device_of}
use Rattle.sn_limits.specs.declared.kind.Kind.{Kind}
use Rattle.sn_layout_node.specs.declared.content.Content.TheVariants.{Tree}
use Rattle.sn_ondisk.specs.Trees.{store_of}
use Rattle.sn_image.specs.Names.{names_of, names_by}
use Rattle.sn_sound.specs.Faults.{IsContentFault, IsDirectoryFault}
use Rattle.sn_marks.proofs.WalkLemmas.{told_weaker}
use Rattle.sn_check_root.specs.Rules.{IsSoundContent, IsSpeltWrong}
use Rattle.sn_check_root.proofs.InodeLemmas.{file_sound, kind_sound, kind_wrong}
use Rattle.sn_check_root.proofs.WrongLemmas.{spelt_weaker}
use Rattle.sn_check_root.proofs.contents.check_kind.Goals as goal

pub returns-in-File-clause-sound : goal.returns-in-File-clause-sound
returns-in-File-clause-sound g c told ends =
    let s = store_of (reads (g.D.Device.disk (device_of c.args.blocks.now))) in
    subst (λ (kind : Kind). IsSoundContent c.args.limits.now s kind (Tree c.args.tree.now)) (sym c.in-File.is) (file_sound c.args.limits.now s c.args.tree.now ends)

pub returns-in-Directory-clause-sound : goal.returns-in-Directory-clause-sound
returns-in-Directory-clause-sound g c told =
    let s = store_of (reads (g.D.Device.disk (device_of c.args.blocks.now))) in
    kind_sound c.args.limits.now s c.args.kind c.args.tree.now c.check_directory.result c.in-Directory.is (c.check_directory.ensures.blocks told) (c.check_directory.ensures.names told)

pub returns-in-Directory-clause-fault : goal.returns-in-Directory-clause-fault
returns-in-Directory-clause-fault g c told =
    let s = store_of (reads (g.D.Device.disk (device_of c.args.blocks.now))) in
    told_weaker c.check_directory.result
    (IsSpeltWrong (IsDirectoryFault c.args.limits.now s c.args.tree.now (names_of s (Tree c.args.tree.now)) c.args.top))
    (IsSpeltWrong (IsContentFault c.args.limits.now s c.args.kind (Tree c.args.tree.now) (names_by s c.args.kind (Tree c.args.tree.now)) c.args.top))
    (λ damage block wrong. spelt_weaker _ _ damage block (λ x found. kind_wrong c.args.limits.now s c.args.kind c.args.tree.now c.args.top x c.in-Directory.is found) wrong)
    (c.check_directory.ensures.fault told)
