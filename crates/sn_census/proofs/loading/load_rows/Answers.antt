use Rattle.std.proofs.Common.{◌≡◌, ℕ, ◌+◌, ◌/◌, min, IsTrue, subst, arith}
use Rattle.sn_device.specs.Disk.{reads}
use Rattle.sn_block.specs.Lending.{device_of}
use Rattle.sn_ondisk.specs.Trees.{Store, store_of}
use Rattle.sn_image.specs.Inodes.{inode_at}
use Rattle.sn_inode.specs.Reads.{CanReadRecord}
use Rattle.sn_check_root.proofs.DeviceLemmas.{stays_begun, stays_more, at_start, at_now}
use Rattle.sn_census.specs.Rows.{AreLoaded, AreUnused, Sets, row_of}
use Rattle.sn_census.specs.declared.table.Row.{Row}
use Rattle.sn_census.proofs.RowLemmas.{loaded_more, loaded_none, unused_behind}
use Rattle.sn_census.proofs.loading.load_rows.Goals as goal

pub loop-number-init : goal.loop-number-init
loop-number-init g c = record { stays = stays_begun _ _ _; loaded = λ told. loaded_none _ _ _; unused = λ told. c.clear.ensures }

pub load_row-requires : goal.load_row-requires
load_row-requires g c = record { read = λ told. at_now _ _ _ _ _ c.loop-number.invariant.stays (λ n s. CanReadRecord c.args.limits.now n s c.args.file.now c.loop-number.number) told (c.requires.read told c.loop-number.number) }

pub loop-number-preserved : goal.loop-number-preserved
loop-number-preserved g c = record {
  stays = stays_more _ _ _ _ _ _ _ c.loop-number.invariant.stays c.in_ok-load_row.ensures.counts.done c.load_row.ensures.same;
  loaded = λ told. loaded_more s c.args.file.now c.loop-number.number c.loop-number.census c.load_row.new.census (c.loop-number.invariant.loaded told) (put told);
  unused = λ told. unused_behind c.loop-number.number c.loop-number.number (c.loop-number.number + 1) (row c.loop-number.number s) c.loop-number.census c.load_row.new.census (put told) (omega arith) (omega arith) (c.loop-number.invariant.unused told);
}
  where
    s : Store
    s = store_of (reads (g.D.Device.disk (device_of c.args.blocks.now)))

    row : ℕ → Store → Row
    row n q = row_of n (inode_at q c.args.file.now n)

    put : IsTrue g.D.Device.tells_bytes → Sets c.loop-number.number (row c.loop-number.number s) c.loop-number.census c.load_row.new.census
    put told = at_start _ _ _ _ _ c.loop-number.invariant.stays (λ (n : ℕ) (q : Store). Sets c.loop-number.number (row c.loop-number.number q) c.loop-number.census c.load_row.new.census) told (c.in_ok-load_row.ensures.row told)

pub returns-clause-rows : goal.returns-clause-rows
returns-clause-rows g c told =
    let all : c.loop-number.number ≡ min (c.args.file.now.size / 128) 65536 = omega (arith, c.record_count-number-end.ensures) in
    subst (λ (n : ℕ). AreLoaded (store_of (reads (g.D.Device.disk (device_of c.args.blocks.now)))) c.args.file.now n c.loop-number.census) all (c.loop-number.invariant.loaded told)

pub returns-clause-rest : goal.returns-clause-rest
returns-clause-rest g c told =
    let all : c.loop-number.number ≡ min (c.args.file.now.size / 128) 65536 = omega (arith, c.record_count-number-end.ensures) in
    subst (λ (n : ℕ). AreUnused n c.loop-number.census) all (c.loop-number.invariant.unused told)
