use Rattle.std.proofs.Common.{◌≡◌, ℕ, ◌/◌, ◌≤◌, arith}
use Rattle.std.proofs.lemmas.Result.{err_from_is_err_and}
use Rattle.sn_device.specs.Disk.{reads}
use Rattle.sn_block.specs.Lending.{device_of}
use Rattle.sn_ondisk.specs.Trees.{Store, store_of}
use Rattle.sn_image.specs.Names.{names_at}
use Rattle.sn_marks.specs.Fault.{Tells}
use Rattle.sn_check_root.proofs.DeviceLemmas.{stays_begun, stays_more, at_start, at_now}
use Rattle.sn_census.specs.Counts.{Counts, HasRoom}
use Rattle.sn_census.specs.Faults.{StandsInLinks}
use Rattle.sn_census.specs.Roots.{IsReadable}
use Rattle.sn_census.proofs.SumLemmas.{counted_all, counted_more, room_next}
use Rattle.sn_census.proofs.naming.count_names.Goals as goal

pub loop-number-init : goal.loop-number-init
loop-number-init g c = record { stays = stays_begun _ _ _; counted = λ told. c.requires.begun told }

pub count_number-requires : goal.count_number-requires
count_number-requires g c =
    let s = store_of (reads (g.D.Device.disk (device_of c.args.blocks.now))) in
    let least : 2 ≤ c.loop-number.number = c.loop-number.auto.number in
    record {
      readable = λ told. at_now _ _ _ _ _ c.loop-number.invariant.stays (λ n q. IsReadable c.args.limits.now n q c.args.file.now) told (c.requires.readable told);
      room = λ told. at_now _ _ _ _ _ c.loop-number.invariant.stays (λ n q. HasRoom q c.args.file.now (names_at q c.args.file.now c.loop-number.number) c.loop-number.census) told
          (room_next s c.args.file.now c.loop-number.number c.loop-number.census least (omega (arith, c.record_count-number-end.ensures)) (c.loop-number.invariant.counted told));
    }

pub loop-number-preserved : goal.loop-number-preserved
loop-number-preserved g c =
    let s = store_of (reads (g.D.Device.disk (device_of c.args.blocks.now))) in
    let least : 2 ≤ c.loop-number.number = c.loop-number.auto.number in
    record {
      stays = stays_more _ _ _ _ _ _ _ c.loop-number.invariant.stays c.in_ok-count_number.ensures.counts.done c.count_number.ensures.same;
      counted = λ told.
          counted_more s c.args.file.now c.loop-number.number c.loop-number.census c.count_number.new.census least (c.loop-number.invariant.counted told)
          (at_start _ _ _ _ _ c.loop-number.invariant.stays (λ (n : ℕ) (q : Store). Counts c.loop-number.number (names_at q c.args.file.now c.loop-number.number) c.loop-number.census c.count_number.new.census) told (c.in_ok-count_number.ensures.counted told));
    }

pub returns-in_err-count_number-clause-fault : goal.returns-in_err-count_number-clause-fault
returns-in_err-count_number-clause-fault g c told =
    let p = err_from_is_err_and c.from_residual.result c.from_residual.ensures.1 in
    rw (p.1, p.2) (at_start _ _ _ _ _ c.loop-number.invariant.stays (λ (n : ℕ) (q : Store). Tells c.in_err-count_number.field-0.0 (StandsInLinks q c.args.file.now c.args.body)) told (c.in_err-count_number.ensures.fault told))

pub returns-clause-counted : goal.returns-clause-counted
returns-clause-counted g c told =
    let s = store_of (reads (g.D.Device.disk (device_of c.args.blocks.now))) in
    let w = c.requires.readable told in
    let all : c.loop-number.number ≡ c.args.file.now.size / 128 = omega (arith, w.least, w.most, c.record_count-number-end.ensures) in
    counted_all s c.args.file.now c.loop-number.number c.loop-number.census all (c.loop-number.invariant.counted told)
