use Rattle.std.proofs.Common.{◌≡◌, ap, sym, subst, ◌∙◌}
use Rattle.std.specs.Prelude.{codes}
use Rattle.std.proofs.lemmas.Result.{on_ok_weaker}
use Rattle.sn_device.specs.Disk.{reads}
use Rattle.sn_block.specs.Lending.{device_of}
use Rattle.sn_limits.specs.declared.kind.Kind.{Kind}
use Rattle.sn_limits.specs.declared.kind.Kind.TheVariants.{File, Directory}
use Rattle.sn_layout_node.specs.Directory.{number_of}
use Rattle.sn_ondisk.specs.Trees.{store_of}
use Rattle.sn_image.specs.Names.{names_by}
use Rattle.sn_image.specs.Sound.{HasContent}
use Rattle.sn_marks.specs.Fault.{Tells}
use Rattle.sn_marks.specs.declared.fault.CheckFault.{CheckFault}
use Rattle.sn_marks.proofs.WalkLemmas.{told_weaker}
use Rattle.sn_check_root.specs.Rules.{Breaks, breaks, IsRootInode}
use Rattle.sn_check_root.proofs.WrongLemmas.{breaks_weaker}
use Rattle.sn_check_root.proofs.reserved.check_root_inode.Goals as goal

pub returns-in-File-clause-fault : goal.returns-in-File-clause-fault
returns-in-File-clause-fault g c told =
    let s = store_of (reads (g.D.Device.disk (device_of c.args.blocks.now))) in
    subst (λ (f : CheckFault). Tells f (Breaks (IsRootInode s c.args.inode.now) c.args.top)) (sym c.misspelt.ensures)
    (breaks (λ (is : IsRootInode s c.args.inode.now). let clash : File ≡ Directory = sym c.in-File.is ∙ is.kind in cc))

pub check_root_content-requires : goal.check_root_content-requires
check_root_content-requires g c = record { read = λ told. c.requires.read told c.in-Directory.is }

pub returns-in-Directory-clause-directory : goal.returns-in-Directory-clause-directory
returns-in-Directory-clause-directory g c told = on_ok_weaker c.check_root_content.result (λ hidden. c.in-Directory.is) (c.check_root_content.ensures.hidden told)

pub returns-in-Directory-clause-hidden : goal.returns-in-Directory-clause-hidden
returns-in-Directory-clause-hidden g c told =
    let s = store_of (reads (g.D.Device.disk (device_of c.args.blocks.now))) in
    on_ok_weaker c.check_root_content.result (λ hidden. ap (λ (k : Kind). number_of (codes ".snapshot") (names_by s k c.args.inode.now.content)) c.in-Directory.is ∙ hidden) (c.check_root_content.ensures.hidden told)

pub returns-in-Directory-clause-fault : goal.returns-in-Directory-clause-fault
returns-in-Directory-clause-fault g c told =
    let s = store_of (reads (g.D.Device.disk (device_of c.args.blocks.now))) in
    told_weaker c.check_root_content.result _ (Breaks (IsRootInode s c.args.inode.now) c.args.top)
    (λ damage block broken. breaks_weaker _ (IsRootInode s c.args.inode.now) c.args.top damage block (λ (is : IsRootInode s c.args.inode.now). (
      subst (λ (k : Kind). HasContent s k c.args.inode.now.content) c.in-Directory.is is.has,
      ap (λ (k : Kind). number_of (codes ".snapshot") (names_by s k c.args.inode.now.content)) (sym c.in-Directory.is) ∙ is.hidden,
    )) broken)
    (c.check_root_content.ensures.fault told)
