use Rattle.std.proofs.Common.{◌≡◌, ℕ, zero, suc, ◌<◌, arith}
use Rattle.std.proofs.lemmas.Result.{err_from_is_err_and}
use Rattle.sn_device.specs.Disk.{reads}
use Rattle.sn_block.specs.Lending.{device_of}
use Rattle.sn_layout.specs.Bytes.{zeros}
use Rattle.sn_ondisk.specs.Trees.{Store, store_of}
use Rattle.sn_image.specs.Inodes.{record_at}
use Rattle.sn_sound.specs.Faults.{IsMisspelt, record_block}
use Rattle.sn_marks.specs.Fault.{Tells}
use Rattle.sn_marks.proofs.WalkLemmas.{tells_weaker}
use Rattle.sn_check_root.specs.Reading.{TreeLies}
use Rattle.sn_check_root.specs.Rules.{Breaks, IsSpeltWrong}
use Rattle.sn_check_root.proofs.DeviceLemmas.{stays_one, at_start, at_now}
use Rattle.sn_check_root.proofs.SoundLemmas.{reserved_wrong}
use Rattle.sn_check_root.proofs.WrongLemmas.{spelt_rule}
use Rattle.sn_check_root.proofs.reserved.check_reserved.Goals as goal

pub check_unused-requires-2 : goal.check_unused-requires-2
check_unused-requires-2 g c = record {
  number = omega arith;
  lies = λ told. at_now _ _ _ _ _ (stays_one _ _ _ _ _ c.in_ok-check_unused.ensures.counts.done c.check_unused.ensures.same) (λ n s. TreeLies n s c.args.file.now) told (c.requires.lies told);
}

pub returns-in_err-check_unused-clause-fault : goal.returns-in_err-check_unused-clause-fault
returns-in_err-check_unused-clause-fault g c told =
    let s = store_of (reads (g.D.Device.disk (device_of c.args.blocks.now))) in
    let p = err_from_is_err_and c.from_residual.result c.from_residual.ensures.1 in
    rw (p.1, p.2) (tells_weaker c.in_err-check_unused.field-0.0
    (Breaks (record_at s c.args.file.now 0 ≡ zeros 128) (record_block s c.args.file.now c.args.body 0))
    (IsSpeltWrong (IsMisspelt c.args.limits.now s c.args.file.now c.args.body))
    (λ damage block broken. spelt_rule _ _ _ damage block (reserved_wrong c.args.limits.now s c.args.file.now c.args.body 0 (omega arith)) broken)
    (c.in_err-check_unused.ensures.fault told))

pub returns-in_err-check_unused-2-clause-fault : goal.returns-in_err-check_unused-2-clause-fault
returns-in_err-check_unused-2-clause-fault g c told =
    let s = store_of (reads (g.D.Device.disk (device_of c.args.blocks.now))) in
    let stays = stays_one _ _ _ _ _ c.in_ok-check_unused.ensures.counts.done c.check_unused.ensures.same in
    let Part = λ (q : Store). Breaks (record_at q c.args.file.now 1 ≡ zeros 128) (record_block q c.args.file.now c.args.body 1) in
    let p = err_from_is_err_and c.from_residual-in_err-check_unused-2.result c.from_residual-in_err-check_unused-2.ensures.1 in
    rw (p.1, p.2) (tells_weaker c.in_err-check_unused-2.field-0.0 (Part s)
    (IsSpeltWrong (IsMisspelt c.args.limits.now s c.args.file.now c.args.body))
    (λ damage block broken. spelt_rule _ _ _ damage block (reserved_wrong c.args.limits.now s c.args.file.now c.args.body 1 (omega arith)) broken)
    (at_start _ _ _ _ _ stays (λ (n : ℕ) (q : Store). Tells c.in_err-check_unused-2.field-0.0 (Part q)) told (c.in_err-check_unused-2.ensures.fault told)))

pub returns-clause-reserved : goal.returns-clause-reserved
returns-clause-reserved g c told number low =
    let s = store_of (reads (g.D.Device.disk (device_of c.args.blocks.now))) in
    let stays = stays_one _ _ _ _ _ c.in_ok-check_unused.ensures.counts.done c.check_unused.ensures.same in
    both s number low (c.in_ok-check_unused.ensures.unused told)
    (at_start _ _ _ _ _ stays (λ (n : ℕ) (q : Store). record_at q c.args.file.now 1 ≡ zeros 128) told (c.in_ok-check_unused-2.ensures.unused told))
  where
    both : (s : Store) (number : ℕ) → number < 2 → record_at s c.args.file.now 0 ≡ zeros 128 → record_at s c.args.file.now 1 ≡ zeros 128 → record_at s c.args.file.now number ≡ zeros 128
    both s zero low first second = first
    both s (suc zero) low first second = second
    both s (suc (suc number)) low first second = absurd (omega (arith, low))
