use Rattle.std.proofs.Common.{◌≡◌, ℕ, ◌*◌, ◌/◌, ◌<◌, ◌≤◌, flat_map, refl, sym, subst, ◌∙◌, arith}
use Rattle.std.proofs.lemmas.Result.{err_from_is_err_and}
use Rattle.sn_device.specs.Disk.{reads}
use Rattle.sn_device.specs.declared.status.Status.{Status}
use Rattle.sn_block.specs.Lending.{device_of}
use Rattle.sn_ondisk.specs.Trees.{Store, store_of}
use Rattle.sn_image.specs.Reach.{numbers, reach_at}
use Rattle.sn_sound.specs.Faults.{IsMisspelt}
use Rattle.sn_marks.specs.Fault.{Tells}
use Rattle.sn_marks.specs.Marks.{Marks}
use Rattle.sn_marks.proofs.WalkLemmas.{tells_weaker}
use Rattle.sn_check_root.specs.Reading.{TreeLies}
use Rattle.sn_check_root.specs.Rules.{IsSoundNumber, IsWrong}
use Rattle.sn_check_root.proofs.DeviceLemmas.{stays_begun, stays_more, at_start, at_now}
use Rattle.sn_check_root.proofs.RootLemmas.{checked_none, checked_more, all_marked, wrong_number}
use Rattle.sn_check_root.proofs.roots.check_inodes.Goals as goal

pub loop-number-init : goal.loop-number-init
loop-number-init g c = record { stays = stays_begun _ _ _; words = refl; checked = λ told. checked_none _ _ _ _ _ _ }

pub check_inode-requires : goal.check_inode-requires
check_inode-requires g c = record {
  words = c.loop-number.invariant.words ∙ c.requires.words;
  room = subst (λ (status : Status). 8 * c.args.root.now.geometry ≤ status.sectors) (sym c.loop-number.invariant.stays.status) c.requires.room;
  lies = λ told. at_now _ _ _ _ _ c.loop-number.invariant.stays (λ n s. TreeLies n s c.args.file.now) told (c.requires.lies told);
}

pub loop-number-preserved : goal.loop-number-preserved
loop-number-preserved g c =
    let s = store_of (reads (g.D.Device.disk (device_of c.args.blocks.now))) in
    let least : 2 ≤ c.loop-number.number = c.loop-number.auto.number in
    record {
      stays = stays_more _ _ _ _ _ _ _ c.loop-number.invariant.stays c.in_ok-check_inode.ensures.counts.done c.check_inode.ensures.same;
      words = c.check_inode.ensures.words ∙ c.loop-number.invariant.words;
      checked = λ told.
          checked_more s c.args.file.now c.args.limits.now c.args.root.now.geometry c.args.root.now.bit c.loop-number.number c.args.map.now c.loop-number.map c.check_inode.new.map least (c.loop-number.invariant.checked told)
          (at_start _ _ _ _ _ c.loop-number.invariant.stays (λ (n : ℕ) (q : Store). Marks c.args.root.now.geometry c.args.root.now.bit (reach_at q c.args.file.now c.loop-number.number) c.loop-number.map c.check_inode.new.map) told (c.in_ok-check_inode.ensures.marks told))
          (at_start _ _ _ _ _ c.loop-number.invariant.stays (λ (n : ℕ) (q : Store). IsSoundNumber c.args.limits.now q c.args.file.now c.loop-number.number) told (c.in_ok-check_inode.ensures.sound told));
    }

pub returns-in_err-check_inode-clause-fault : goal.returns-in_err-check_inode-clause-fault
returns-in_err-check_inode-clause-fault g c told =
    let s = store_of (reads (g.D.Device.disk (device_of c.args.blocks.now))) in
    let least : 2 ≤ c.loop-number.number = c.loop-number.auto.number in
    let within : c.loop-number.number < c.args.file.now.size / 128 = omega arith in
    let Part = λ (q : Store). IsWrong c.args.root.now.geometry c.args.root.now.bit (reach_at q c.args.file.now c.loop-number.number) c.loop-number.map (IsMisspelt c.args.limits.now q c.args.file.now c.args.body) in
    let p = err_from_is_err_and c.from_residual.result c.from_residual.ensures.1 in
    rw (p.1, p.2) (tells_weaker c.in_err-check_inode.field-0.0 (Part s)
    (IsWrong c.args.root.now.geometry c.args.root.now.bit (flat_map (reach_at s c.args.file.now) (numbers c.args.file.now)) c.args.map.now (IsMisspelt c.args.limits.now s c.args.file.now c.args.body))
    (λ damage block wrong. wrong_number s c.args.file.now c.args.limits.now _ _ _ c.loop-number.number c.args.map.now c.loop-number.map damage block least within (c.loop-number.invariant.checked told) wrong)
    (at_start _ _ _ _ _ c.loop-number.invariant.stays (λ (n : ℕ) (q : Store). Tells c.in_err-check_inode.field-0.0 (Part q)) told (c.in_err-check_inode.ensures.fault told)))

pub returns-clause-marks : goal.returns-clause-marks
returns-clause-marks g c told =
    let s = store_of (reads (g.D.Device.disk (device_of c.args.blocks.now))) in
    let all : c.loop-number.number ≡ c.args.file.now.size / 128 = omega (arith, c.requires.file.least) in
    all_marked s c.args.file.now c.args.limits.now c.args.root.now.geometry c.args.root.now.bit c.loop-number.number c.args.map.now c.loop-number.map all (c.loop-number.invariant.checked told)

pub returns-clause-sound : goal.returns-clause-sound
returns-clause-sound g c told number least within =
    let all : c.loop-number.number ≡ c.args.file.now.size / 128 = omega (arith, c.requires.file.least) in
    (c.loop-number.invariant.checked told).sound number least (omega (arith, all, within))

pub overflow_cast-number : goal.overflow_cast-number
overflow_cast-number g c = omega (arith, c.requires.file.most, c.loop-number-test.true, c.number_law.ensures)
