use Rattle.std.proofs.Common.{◌≡◌, ℕ, ◌*◌, ◌≤◌, ◌+◌, ◌<◌, ◌/◌, flat_map, Contains, ap, sym, subst, ◌∙◌, arith}
use Rattle.std.proofs.lemmas.Result.{err_from_is_err_and, on_ok_weaker}
use Rattle.sn_device.specs.Disk.{Disk, reads}
use Rattle.sn_device.specs.declared.status.Status.{Status}
use Rattle.sn_block.specs.Lending.{device_of}
use Rattle.sn_ondisk.specs.Trees.{Store, store_of}
use Rattle.sn_image.specs.Reach.{numbers, reach_at}
use Rattle.sn_sound.specs.Faults.{IsMisspelt}
use Rattle.sn_marks.specs.Fault.{Tells}
use Rattle.sn_marks.specs.Marks.{Marks}
use Rattle.sn_marks.proofs.WalkLemmas.{tells_weaker, told_weaker}
use Rattle.sn_check_root.specs.Reading.{TreeLies}
use Rattle.sn_check_root.specs.Rules.{IsSoundNumber, IsSpeltWrong, IsWrong}
use Rattle.sn_check_root.proofs.DeviceLemmas.{stays_one, stays_more, at_start, at_now}
use Rattle.sn_check_root.proofs.SoundLemmas.{records_checked, root_data}
use Rattle.sn_check_root.proofs.WrongLemmas.{wrong_spelt}
use Rattle.sn_check_root.proofs.roots.check_records.Goals as goal

pub check_inodes-requires : goal.check_inodes-requires
check_inodes-requires g c =
    let stays = stays_one _ _ _ _ _ c.in_ok-check_reserved.ensures.counts.done c.check_reserved.ensures.same in
    record {
      file = c.requires.file;
      words = c.requires.words;
      room = subst (λ (status : Status). 8 * c.args.root.now.geometry ≤ status.sectors) (sym stays.status) c.requires.room;
      lies = λ told. at_now _ _ _ _ _ stays (λ (m : ℕ) (q : Store). TreeLies m q c.args.file.now) told (c.requires.lies told);
    }

pub check_top-requires : goal.check_top-requires
check_top-requires g c =
    let first = stays_one _ _ _ _ _ c.in_ok-check_reserved.ensures.counts.done c.check_reserved.ensures.same in
    let second = stays_one _ _ _ _ _ c.in_ok-check_inodes.ensures.counts.done c.check_inodes.ensures.same in
    let stays = stays_more _ _ _ _ _ _ _ first c.in_ok-check_inodes.ensures.counts.done c.check_inodes.ensures.same in
    let room = subst (λ (status : Status). 8 * c.args.root.now.geometry ≤ status.sectors) (sym first.status) c.requires.room in
    record {
      lies = λ told. at_now _ _ _ _ _ stays (λ (m : ℕ) (q : Store). TreeLies m q c.args.file.now) told (c.requires.lies told);
      sound = λ told. at_now _ _ _ _ _ second (λ (m : ℕ) (q : Store). IsSoundNumber c.args.limits.now q c.args.file.now 2) told
          (c.in_ok-check_inodes.ensures.sound told 2 (omega arith) (omega (arith, c.requires.file.least)));
      reached = λ told. at_now _ _ _ _ _ second (λ (m : ℕ) (q : Store). (block : ℕ) → Contains (reach_at q c.args.file.now 2) block → 8 * block + 8 ≤ m) told
          (root_data c.args.limits.now _ c.args.file.now c.args.root.now.geometry c.args.root.now.bit c.args.map.now c.check_inodes.new.map c.args.map.now _ c.requires.file room (c.in_ok-check_inodes.ensures.marks told));
    }

pub returns-in_err-check_reserved-clause-fault : goal.returns-in_err-check_reserved-clause-fault
returns-in_err-check_reserved-clause-fault g c told =
    let s = store_of (reads (g.D.Device.disk (device_of c.args.blocks.now))) in
    let p = err_from_is_err_and c.from_residual.result c.from_residual.ensures.1 in
    rw (p.1, p.2) (tells_weaker c.in_err-check_reserved.field-0.0
    (IsSpeltWrong (IsMisspelt c.args.limits.now s c.args.file.now c.args.body))
    (IsWrong c.args.root.now.geometry c.args.root.now.bit (flat_map (reach_at s c.args.file.now) (numbers c.args.file.now)) c.args.map.now (IsMisspelt c.args.limits.now s c.args.file.now c.args.body))
    (λ damage block wrong. wrong_spelt _ _ _ _ _ _ damage block (λ x found. found) wrong)
    (c.in_err-check_reserved.ensures.fault told))

pub returns-in_err-check_inodes-clause-fault : goal.returns-in_err-check_inodes-clause-fault
returns-in_err-check_inodes-clause-fault g c told =
    let first = stays_one _ _ _ _ _ c.in_ok-check_reserved.ensures.counts.done c.check_reserved.ensures.same in
    let Part = λ (q : Store). IsWrong c.args.root.now.geometry c.args.root.now.bit (flat_map (reach_at q c.args.file.now) (numbers c.args.file.now)) c.args.map.now (IsMisspelt c.args.limits.now q c.args.file.now c.args.body) in
    let p = err_from_is_err_and c.from_residual-in_err-check_inodes.result c.from_residual-in_err-check_inodes.ensures.1 in
    rw (p.1, p.2)
    (at_start _ _ _ _ _ first (λ (n : ℕ) (q : Store). Tells c.in_err-check_inodes.field-0.0 (Part q)) told (c.in_err-check_inodes.ensures.fault told))

pub returns-clause-marks : goal.returns-clause-marks
returns-clause-marks g c told =
    let first = stays_one _ _ _ _ _ c.in_ok-check_reserved.ensures.counts.done c.check_reserved.ensures.same in
    let Part = λ (q : Store). Marks c.args.root.now.geometry c.args.root.now.bit (flat_map (reach_at q c.args.file.now) (numbers c.args.file.now)) c.args.map.now c.check_inodes.new.map in
    on_ok_weaker c.check_top.result (λ done. at_start _ _ _ _ _ first (λ (n : ℕ) (q : Store). Part q) told (c.in_ok-check_inodes.ensures.marks told)) (c.check_top.ensures.root told)

pub returns-clause-sound : goal.returns-clause-sound
returns-clause-sound g c told =
    let s = store_of (reads (g.D.Device.disk (device_of c.args.blocks.now))) in
    let r = store_of (reads (g.D.Device.disk (device_of c.check_inodes.new.blocks))) in
    let first = stays_one _ _ _ _ _ c.in_ok-check_reserved.ensures.counts.done c.check_reserved.ensures.same in
    let same : r ≡ s = ap (λ (d : Disk). store_of (reads d)) (c.check_inodes.ensures.same told ∙ c.check_reserved.ensures.same told) in
    records_checked c.args.limits.now s r c.args.file.now same (c.in_ok-check_reserved.ensures.reserved told)
    (at_start _ _ _ _ _ first (λ (n : ℕ) (q : Store). (number : ℕ) → 2 ≤ number → number < c.args.file.now.size / 128 → IsSoundNumber c.args.limits.now q c.args.file.now number) told (c.in_ok-check_inodes.ensures.sound told))
    c.check_top.result (c.check_top.ensures.root told) (c.check_top.ensures.hidden told)

pub returns-clause-fault : goal.returns-clause-fault
returns-clause-fault g c told =
    let s = store_of (reads (g.D.Device.disk (device_of c.args.blocks.now))) in
    let r = store_of (reads (g.D.Device.disk (device_of c.check_inodes.new.blocks))) in
    let same : r ≡ s = ap (λ (d : Disk). store_of (reads d)) (c.check_inodes.ensures.same told ∙ c.check_reserved.ensures.same told) in
    told_weaker c.check_top.result
    (IsSpeltWrong (IsMisspelt c.args.limits.now r c.args.file.now c.args.body))
    (IsWrong c.args.root.now.geometry c.args.root.now.bit (flat_map (reach_at s c.args.file.now) (numbers c.args.file.now)) c.args.map.now (IsMisspelt c.args.limits.now s c.args.file.now c.args.body))
    (λ damage block wrong. wrong_spelt _ _ _ _ _ _ damage block (λ x found. subst (λ (q : Store). IsMisspelt c.args.limits.now q c.args.file.now c.args.body x) same found) wrong)
    (c.check_top.ensures.fault told)
