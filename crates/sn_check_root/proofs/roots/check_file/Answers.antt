use Rattle.std.proofs.Common.{◌≡◌, ℕ, ◌*◌, ◌≤◌, flat_map, ap, sym, subst, ◌∙◌}
use Rattle.std.proofs.lemmas.Result.{err_from_is_err_and, on_ok_weaker}
use Rattle.sn_device.specs.Disk.{Disk, reads}
use Rattle.sn_device.specs.declared.status.Status.{Status}
use Rattle.sn_block.specs.Lending.{device_of}
use Rattle.sn_ondisk.specs.Trees.{Store, store_of}
use Rattle.sn_image.specs.Reach.{numbers, reach, reach_at}
use Rattle.sn_sound.specs.Faults.{IsMisspelt}
use Rattle.sn_marks.specs.Marks.{Marks}
use Rattle.sn_marks.specs.Trees.{StandsInTree}
use Rattle.sn_marks.proofs.WalkLemmas.{tells_weaker, told_weaker}
use Rattle.sn_check_root.specs.Reading.{TreeLies}
use Rattle.sn_check_root.specs.Rules.{IsWrong}
use Rattle.sn_check_root.proofs.DeviceLemmas.{stays_one, at_now}
use Rattle.sn_check_root.proofs.SoundLemmas.{reach_marked, root_checked, tree_astray, records_astray}
use Rattle.sn_check_root.proofs.WrongLemmas.{tree_lies}
use Rattle.sn_check_root.proofs.roots.check_file.Goals as goal

pub check_records-requires : goal.check_records-requires
check_records-requires g c =
    let stays = stays_one _ _ _ _ _ c.in_ok-mark_tree.ensures.counts.done c.mark_tree.ensures.same in
    record {
      file = c.requires.file;
      words = c.mark_tree.ensures.words ∙ c.requires.words;
      room = subst (λ (status : Status). 8 * c.args.root.now.geometry ≤ status.sectors) (sym stays.status) c.requires.room;
      lies = λ told.
          at_now _ _ _ _ _ stays (λ (m : ℕ) (q : Store). TreeLies m q c.args.file.now) told
          (tree_lies c.args.root.now.geometry c.args.root.now.bit c.read_laws.ensures.blocks _ _ c.args.file.now c.args.map.now c.mark_tree.new.map c.requires.room (c.in_ok-mark_tree.ensures.marks told));
    }

pub returns-in_err-mark_tree-clause-fault : goal.returns-in_err-mark_tree-clause-fault
returns-in_err-mark_tree-clause-fault g c told =
    let s = store_of (reads (g.D.Device.disk (device_of c.args.blocks.now))) in
    let p = err_from_is_err_and c.from_residual.result c.from_residual.ensures.1 in
    rw (p.1, p.2) (tells_weaker c.in_err-mark_tree.field-0.0
    (StandsInTree c.args.root.now.geometry c.args.root.now.bit s c.args.file.now c.args.body c.args.map.now)
    (IsWrong c.args.root.now.geometry c.args.root.now.bit (reach s c.args.file.now) c.args.map.now (IsMisspelt c.args.limits.now s c.args.file.now c.args.body))
    (λ damage block wrong. tree_astray c.args.limits.now s c.args.file.now c.args.root.now.geometry c.args.root.now.bit c.args.map.now c.args.body damage block wrong)
    (c.in_err-mark_tree.ensures.fault told))

pub returns-clause-marks : goal.returns-clause-marks
returns-clause-marks g c told =
    let s = store_of (reads (g.D.Device.disk (device_of c.args.blocks.now))) in
    let r = store_of (reads (g.D.Device.disk (device_of c.mark_tree.new.blocks))) in
    let same : r ≡ s = ap (λ (d : Disk). store_of (reads d)) (c.mark_tree.ensures.same told) in
    let Part = λ (q : Store). Marks c.args.root.now.geometry c.args.root.now.bit (flat_map (reach_at q c.args.file.now) (numbers c.args.file.now)) c.mark_tree.new.map c.check_records.new.map in
    on_ok_weaker c.check_records.result
    (λ (marks : Part r). reach_marked c.args.limits.now s c.args.file.now c.args.root.now.geometry c.args.root.now.bit c.args.map.now c.mark_tree.new.map c.check_records.new.map (c.in_ok-mark_tree.ensures.marks told) (subst Part same marks))
    (c.check_records.ensures.marks told)

pub returns-clause-sound : goal.returns-clause-sound
returns-clause-sound g c told =
    let s = store_of (reads (g.D.Device.disk (device_of c.args.blocks.now))) in
    let r = store_of (reads (g.D.Device.disk (device_of c.mark_tree.new.blocks))) in
    let same : r ≡ s = ap (λ (d : Disk). store_of (reads d)) (c.mark_tree.ensures.same told) in
    root_checked c.args.limits.now s r c.args.file.now c.args.root.now.geometry c.args.root.now.bit c.args.map.now c.mark_tree.new.map c.check_records.new.map same c.requires.file (c.in_ok-mark_tree.ensures.ends told) (c.in_ok-mark_tree.ensures.marks told) c.check_records.result (c.check_records.ensures.sound told) (c.check_records.ensures.marks told)

pub returns-clause-fault : goal.returns-clause-fault
returns-clause-fault g c told =
    let s = store_of (reads (g.D.Device.disk (device_of c.args.blocks.now))) in
    let r = store_of (reads (g.D.Device.disk (device_of c.mark_tree.new.blocks))) in
    let same : r ≡ s = ap (λ (d : Disk). store_of (reads d)) (c.mark_tree.ensures.same told) in
    let Part = λ (q : Store). IsWrong c.args.root.now.geometry c.args.root.now.bit (flat_map (reach_at q c.args.file.now) (numbers c.args.file.now)) c.mark_tree.new.map (IsMisspelt c.args.limits.now q c.args.file.now c.args.body) in
    told_weaker c.check_records.result (Part r)
    (IsWrong c.args.root.now.geometry c.args.root.now.bit (reach s c.args.file.now) c.args.map.now (IsMisspelt c.args.limits.now s c.args.file.now c.args.body))
    (λ damage block wrong. records_astray c.args.limits.now s c.args.file.now c.args.root.now.geometry c.args.root.now.bit c.args.map.now c.mark_tree.new.map c.args.body damage block (c.in_ok-mark_tree.ensures.marks told)
    (subst (λ (q : Store). Part q damage block) same wrong))
    (c.check_records.ensures.fault told)
