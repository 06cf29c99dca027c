use Rattle.std.proofs.Common.{sym, subst, ◌∙◌}
use Rattle.std.proofs.lemmas.Bool.{true≢false}
use Rattle.sn_device.specs.Disk.{reads}
use Rattle.sn_block.specs.Lending.{device_of}
use Rattle.sn_ondisk.specs.Trees.{store_of}
use Rattle.sn_image.specs.Reach.{reach}
use Rattle.sn_sound.specs.Faults.{IsMisspelt}
use Rattle.sn_sound.specs.Faults as fault
use Rattle.sn_marks.specs.Fault.{Tells}
use Rattle.sn_marks.specs.declared.fault.CheckFault.{CheckFault}
use Rattle.sn_marks.proofs.WalkLemmas.{told_weaker}
use Rattle.sn_check_root.specs.Rules.{IsWrong, StandsInRoot}
use Rattle.sn_check_root.proofs.SoundLemmas.{stands}
use Rattle.sn_check_root.proofs.roots.check_root.Goals as goal

pub check_file-requires : goal.check_file-requires
check_file-requires g c = record {
  file = c.is_inode_file.ensures.0 c.if-not-is_inode_file.false;
  words = c.requires.words;
  room = c.requires.room;
}

pub returns-then-not-is_inode_file-clause-fault : goal.returns-then-not-is_inode_file-clause-fault
returns-then-not-is_inode_file-clause-fault g c told =
    let s = store_of (reads (g.D.Device.disk (device_of c.args.blocks.now))) in
    subst (λ (f : CheckFault). Tells f (StandsInRoot c.args.limits.now c.args.root.now.geometry s c.args.file.now c.args.body)) (sym c.misspelt.ensures)
    (fault.size (λ is. true≢false (sym (c.is_inode_file.ensures.1 is) ∙ c.if-not-is_inode_file.true)))

pub returns-clause-fault : goal.returns-clause-fault
returns-clause-fault g c told =
    let s = store_of (reads (g.D.Device.disk (device_of c.args.blocks.now))) in
    told_weaker c.check_file.result
    (IsWrong c.args.root.now.geometry c.args.root.now.bit (reach s c.args.file.now) c.args.map.now (IsMisspelt c.args.limits.now s c.args.file.now c.args.body))
    (StandsInRoot c.args.limits.now c.args.root.now.geometry s c.args.file.now c.args.body)
    (λ damage block wrong. stands c.args.limits.now s c.args.file.now c.args.body c.args.root.now.geometry c.args.root.now.bit c.args.map.now (c.requires.clear told) damage block wrong)
    (c.check_file.ensures.fault told)
