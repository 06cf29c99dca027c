use Rattle.std.proofs.Common.{◌≡◌, ℕ, ◌/◌, ◌<◌, sym, subst, arith}
use Rattle.std.proofs.lemmas.Result.{err_from_is_err_and}
use Rattle.sn_device.specs.Disk.{reads}
use Rattle.sn_block.specs.Lending.{device_of}
use Rattle.sn_ondisk.specs.Trees.{Store, store_of, data_block}
use Rattle.sn_image.specs.Names.{names_in}
use Rattle.sn_dir.specs.Blocks.{names_before}
use Rattle.sn_dir.proofs.NameLemmas.{before-more}
use Rattle.sn_marks.specs.Fault.{Tells}
use Rattle.sn_check_root.proofs.DeviceLemmas.{stays_begun, stays_more, at_start, at_now}
use Rattle.sn_census.specs.Counts.{Counts, HasRoom}
use Rattle.sn_census.specs.Faults.{StandsInLinks}
use Rattle.sn_census.specs.Roots.{IsDirectoryOf, IsReadable}
use Rattle.sn_census.proofs.CountLemmas.{counts_none, counts_append, counts_alike}
use Rattle.sn_census.proofs.SumLemmas.{room_block}
use Rattle.sn_census.proofs.naming.count_tree.Goals as goal

pub loop-i-init : goal.loop-i-init
loop-i-init g c = record { stays = stays_begun _ _ _; counted = λ told. counts_none _ _ }

pub count_block-requires : goal.count_block-requires
count_block-requires g c =
    let s = store_of (reads (g.D.Device.disk (device_of c.args.blocks.now))) in
    let within : c.loop-i.i < c.args.tree.now.size / 4096 = omega (arith, c.block_count-i-end.ensures.value) in
    record {
      readable = λ told. at_now _ _ _ _ _ c.loop-i.invariant.stays (λ n q. IsReadable c.args.limits.now n q c.args.file.now) told (c.requires.readable told);
      tree = λ told. at_now _ _ _ _ _ c.loop-i.invariant.stays (λ n q. IsDirectoryOf q c.args.file.now c.args.directory c.args.tree.now) told (c.requires.tree told);
      within = within;
      room = λ told. at_now _ _ _ _ _ c.loop-i.invariant.stays (λ n q. HasRoom q c.args.file.now (names_in (data_block q c.args.tree.now c.loop-i.i)) c.loop-i.census) told
          (room_block s c.args.file.now c.args.directory c.args.tree.now c.loop-i.i c.args.census.now c.loop-i.census (c.loop-i.invariant.counted told) within (c.requires.room told));
    }

pub loop-i-preserved : goal.loop-i-preserved
loop-i-preserved g c =
    let s = store_of (reads (g.D.Device.disk (device_of c.args.blocks.now))) in
    record {
      stays = stays_more _ _ _ _ _ _ _ c.loop-i.invariant.stays c.in_ok-count_block.ensures.counts.done c.count_block.ensures.same;
      counted = λ told.
          counts_alike c.args.directory _ _ _ _ (sym (before-more s c.args.tree.now c.loop-i.i))
          (counts_append c.args.directory (names_before s c.args.tree.now c.loop-i.i) (names_in (data_block s c.args.tree.now c.loop-i.i)) c.args.census.now c.loop-i.census c.count_block.new.census
          (c.loop-i.invariant.counted told)
          (at_start _ _ _ _ _ c.loop-i.invariant.stays (λ (n : ℕ) (q : Store). Counts c.args.directory (names_in (data_block q c.args.tree.now c.loop-i.i)) c.loop-i.census c.count_block.new.census) told (c.in_ok-count_block.ensures.counted told)));
    }

pub returns-in_err-count_block-clause-fault : goal.returns-in_err-count_block-clause-fault
returns-in_err-count_block-clause-fault g c told =
    let p = err_from_is_err_and c.from_residual.result c.from_residual.ensures.1 in
    rw (p.1, p.2) (at_start _ _ _ _ _ c.loop-i.invariant.stays (λ (n : ℕ) (q : Store). Tells c.in_err-count_block.field-0.0 (StandsInLinks q c.args.file.now c.args.body)) told (c.in_err-count_block.ensures.fault told))

pub returns-clause-counted : goal.returns-clause-counted
returns-clause-counted g c told =
    let all : c.loop-i.i ≡ c.args.tree.now.size / 4096 = omega (arith, c.block_count-i-end.ensures.value) in
    subst (λ (n : ℕ). Counts c.args.directory (names_before (store_of (reads (g.D.Device.disk (device_of c.args.blocks.now)))) c.args.tree.now n) c.args.census.now c.loop-i.census) all (c.loop-i.invariant.counted told)
