use Rattle.std.proofs.Common.{◌≡◌, ℕ, sym, subst, ◌∙◌}
use Rattle.std.proofs.lemmas.Bool.{true≢false}
use Rattle.std.proofs.lemmas.Result.{err_from_is_err_and}
use Rattle.sn_device.specs.Disk.{reads}
use Rattle.sn_block.specs.Lending.{device_of, fetched_number}
use Rattle.sn_layout.specs.Bytes.{zeros}
use Rattle.sn_ondisk.specs.Trees.{Store, store_of, data_block}
use Rattle.sn_image.specs.Inodes.{record_at}
use Rattle.sn_model.specs.declared.fault.Damage.TheVariants.{Misspelt}
use Rattle.sn_sound.specs.Faults.{record_block}
use Rattle.sn_marks.specs.Fault.{Tells}
use Rattle.sn_marks.specs.declared.fault.CheckFault.{CheckFault}
use Rattle.sn_marks.proofs.WalkLemmas.{tells_weaker}
use Rattle.sn_check_root.specs.Reading.{TreeLies}
use Rattle.sn_check_root.specs.Rules.{Breaks, breaks}
use Rattle.sn_check_root.proofs.DeviceLemmas.{stays_one, at_start, at_now}
use Rattle.sn_check_root.proofs.RecordLemmas.{lent_is, record_first, hole_first}
use Rattle.sn_check_root.proofs.reserved.check_unused.Goals as goal

pub fetch_first-requires : goal.fetch_first-requires
fetch_first-requires g c = record {
  lies = λ told. at_now _ _ _ _ _ (stays_one _ _ _ _ _ c.in_ok-top.ensures.counts.done c.record_block.ensures.same) (λ n s. TreeLies n s c.args.file.now) told (c.requires.lies told);
}

pub returns-in_err-top-clause-fault : goal.returns-in_err-top-clause-fault
returns-in_err-top-clause-fault g c told =
    let s = store_of (reads (g.D.Device.disk (device_of c.args.blocks.now))) in
    let p = err_from_is_err_and c.from_residual.result c.from_residual.ensures.1 in
    rw (p.1, p.2) (tells_weaker c.in_err-top.field-0.0 (λ damage block. ⊥)
    (Breaks (record_at s c.args.file.now c.args.number ≡ zeros 128) (record_block s c.args.file.now c.args.body c.args.number))
    (λ damage block never. absurd never) (c.in_err-top.ensures.fault told))

pub returns-in_err-fetch_first-clause-fault : goal.returns-in_err-fetch_first-clause-fault
returns-in_err-fetch_first-clause-fault g c told =
    let s = store_of (reads (g.D.Device.disk (device_of c.args.blocks.now))) in
    let p = err_from_is_err_and c.from_residual-in_err-fetch_first.result c.from_residual-in_err-fetch_first.ensures.1 in
    rw (p.1, p.2) (tells_weaker c.in_err-fetch_first.field-0.0 (λ damage block. ⊥)
    (Breaks (record_at s c.args.file.now c.args.number ≡ zeros 128) (record_block s c.args.file.now c.args.body c.args.number))
    (λ damage block never. absurd never) (c.in_err-fetch_first.ensures.fault told))

pub returns-then-not-branch-clause-unused : goal.returns-then-not-branch-clause-unused
returns-then-not-branch-clause-unused g c told =
    let s = store_of (reads (g.D.Device.disk (device_of c.args.blocks.now))) in
    let stays = stays_one _ _ _ _ _ c.in_ok-top.ensures.counts.done c.record_block.ensures.same in
    hole_first s c.args.file.now c.args.number c.requires.number
    (at_start _ _ _ _ _ stays (λ (n : ℕ) (q : Store). data_block q c.args.file.now 0 ≡ zeros 4096) told (c.in_ok-fetch_first.ensures.hole told c.if-not-branch.true))

pub returns-then-not-is_unused-clause-fault : goal.returns-then-not-is_unused-clause-fault
returns-then-not-is_unused-clause-fault g c told =
    let s = store_of (reads (g.D.Device.disk (device_of c.args.blocks.now))) in
    let stays = stays_one _ _ _ _ _ c.in_ok-top.ensures.counts.done c.record_block.ensures.same in
    let here = lent_is (fetched_number c.fetch_first.new.blocks) _ c.fetched.result.now _ (c.in_ok-fetch_first.ensures.lent c.if-not-branch.false) (c.fetched.ensures.bytes told) (c.in_ok-fetch_first.ensures.block told c.if-not-branch.false) in
    let bytes = at_start _ _ _ _ _ stays (λ (n : ℕ) (q : Store). c.fetched.result.now ≡ data_block q c.args.file.now 0) told here in
    let Rule = record_at s c.args.file.now c.args.number ≡ zeros 128 in
    subst (λ (f : CheckFault). Tells f (Breaks Rule (record_block s c.args.file.now c.args.body c.args.number))) (sym c.misspelt.ensures)
    (subst (λ (at : ℕ). Breaks Rule (record_block s c.args.file.now c.args.body c.args.number) Misspelt at) (sym (c.in_ok-top.ensures.block told))
    (breaks (λ (is : Rule). true≢false (sym (c.is_unused.ensures.1 (record_first s c.args.file.now c.args.number c.requires.number c.fetched.result.now bytes ∙ is)) ∙ c.if-not-is_unused.true))))

pub returns-clause-unused : goal.returns-clause-unused
returns-clause-unused g c told =
    let s = store_of (reads (g.D.Device.disk (device_of c.args.blocks.now))) in
    let stays = stays_one _ _ _ _ _ c.in_ok-top.ensures.counts.done c.record_block.ensures.same in
    let here = lent_is (fetched_number c.fetch_first.new.blocks) _ c.fetched.result.now _ (c.in_ok-fetch_first.ensures.lent c.if-not-branch.false) (c.fetched.ensures.bytes told) (c.in_ok-fetch_first.ensures.block told c.if-not-branch.false) in
    let bytes = at_start _ _ _ _ _ stays (λ (n : ℕ) (q : Store). c.fetched.result.now ≡ data_block q c.args.file.now 0) told here in
    sym (record_first s c.args.file.now c.args.number c.requires.number c.fetched.result.now bytes) ∙ c.is_unused.ensures.0 c.if-not-is_unused.false
