use Rattle.std.proofs.Common.{◌≡◌, ℕ, ◌/◌, ◌<◌, length, refl, ap, subst, ◌∙◌, arith}
use Rattle.std.proofs.lemmas.Result.{err_from_is_err_and}
use Rattle.sn_device.specs.Disk.{reads}
use Rattle.sn_block.specs.Lending.{device_of}
use Rattle.sn_ondisk.specs.Trees.{Store, store_of, data_block}
use Rattle.sn_image.specs.Names.{names_in}
use Rattle.sn_dir.specs.Blocks.{names_before}
use Rattle.sn_dir.proofs.NameLemmas.{count_more}
use Rattle.sn_marks.specs.Fault.{Tells}
use Rattle.sn_marks.proofs.WalkLemmas.{tells_weaker}
use Rattle.sn_check_root.specs.Reading.{TreeLies}
use Rattle.sn_check_root.specs.Rules.{HasBadBlock, IsBadBlock, IsNamesBlock, IsSpeltWrong}
use Rattle.sn_check_root.proofs.BlockLemmas.{AreNamesBlocks, blocks_none, blocks_more}
use Rattle.sn_check_root.proofs.DeviceLemmas.{stays_begun, stays_more, at_start, at_now}
use Rattle.sn_check_root.proofs.WrongLemmas.{spelt_weaker}
use Rattle.sn_check_root.proofs.directories.count_names.Goals as goal

pub loop-i-init : goal.loop-i-init
loop-i-init g c = record { stays = stays_begun _ _ _; few = omega arith; counted = λ told. refl; sound = λ told. blocks_none _ _ }

pub count_in-requires : goal.count_in-requires
count_in-requires g c = record { lies = λ told. at_now _ _ _ _ _ c.loop-i.invariant.stays (λ n s. TreeLies n s c.args.tree.now) told (c.requires.lies told) }

pub loop-i-preserved : goal.loop-i-preserved
loop-i-preserved g c =
    let s = store_of (reads (g.D.Device.disk (device_of c.args.blocks.now))) in
    record {
      stays = stays_more _ _ _ _ _ _ _ c.loop-i.invariant.stays c.in_ok-names.ensures.counts.done c.count_in.ensures.same;
      few = omega (arith, c.loop-i.invariant.few, c.in_ok-names.ensures.few);
      counted = λ told.
          count_more s c.args.tree.now c.loop-i.i c.loop-i.count (c.loop-i.invariant.counted told) c.in_ok-names.names
          (at_start _ _ _ _ _ c.loop-i.invariant.stays (λ (n : ℕ) (r : Store). c.in_ok-names.names ≡ length (names_in (data_block r c.args.tree.now c.loop-i.i))) told (c.in_ok-names.ensures.count told));
      sound = λ told.
          blocks_more s c.args.tree.now c.loop-i.i (c.loop-i.invariant.sound told)
          (at_start _ _ _ _ _ c.loop-i.invariant.stays (λ (n : ℕ) (r : Store). IsNamesBlock r c.args.tree.now c.loop-i.i) told (c.in_ok-names.ensures.sound told));
    }

pub overflow_add-count : goal.overflow_add-count
overflow_add-count g c = omega (arith, c.loop-i.invariant.few, c.in_ok-names.ensures.few, c.block_count-i-end.ensures.most)

pub returns-in_err-names-clause-fault : goal.returns-in_err-names-clause-fault
returns-in_err-names-clause-fault g c told =
    let s = store_of (reads (g.D.Device.disk (device_of c.args.blocks.now))) in
    let within : c.loop-i.i < c.args.tree.now.size / 4096 = omega (arith, c.block_count-i-end.ensures.value) in
    let p = err_from_is_err_and c.from_residual.result c.from_residual.ensures.1 in
    rw (p.1, p.2) (tells_weaker c.in_err-names.field-0.0
    (IsSpeltWrong (IsBadBlock s c.args.tree.now c.loop-i.i c.args.top))
    (IsSpeltWrong (HasBadBlock s c.args.tree.now c.args.top))
    (λ damage block wrong. spelt_weaker _ _ damage block (λ x bad. (c.loop-i.i, within, bad)) wrong)
    (at_start _ _ _ _ _ c.loop-i.invariant.stays (λ (n : ℕ) (r : Store). Tells c.in_err-names.field-0.0 (IsSpeltWrong (IsBadBlock r c.args.tree.now c.loop-i.i c.args.top))) told (c.in_err-names.ensures.fault told)))

pub returns-clause-count : goal.returns-clause-count
returns-clause-count g c told =
    let all : c.loop-i.i ≡ c.args.tree.now.size / 4096 = omega (arith, c.block_count-i-end.ensures.value) in
    c.loop-i.invariant.counted told ∙ ap (λ (n : ℕ). length (names_before (store_of (reads (g.D.Device.disk (device_of c.args.blocks.now)))) c.args.tree.now n)) all

pub returns-clause-sound : goal.returns-clause-sound
returns-clause-sound g c told =
    let all : c.loop-i.i ≡ c.args.tree.now.size / 4096 = omega (arith, c.block_count-i-end.ensures.value) in
    subst (AreNamesBlocks (store_of (reads (g.D.Device.disk (device_of c.args.blocks.now)))) c.args.tree.now) all (c.loop-i.invariant.sound told)
