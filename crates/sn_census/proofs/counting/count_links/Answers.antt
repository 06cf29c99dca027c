use Rattle.std.proofs.Common.{◌≡◌, ◌≤◌, ℕ, ◌/◌, min, ap, subst, ◌∙◌, arith}
use Rattle.std.proofs.lemmas.Result.{err_from_is_err_and, on_ok_weaker}
use Rattle.sn_device.specs.Disk.{Disk, reads}
use Rattle.sn_block.specs.Lending.{device_of}
use Rattle.sn_ondisk.specs.Trees.{Store, store_of}
use Rattle.sn_image.specs.Sound.{IsLinked}
use Rattle.sn_marks.specs.Fault.{Tells}
use Rattle.sn_marks.proofs.WalkLemmas.{tells_weaker, told_weaker}
use Rattle.sn_check_root.proofs.DeviceLemmas.{stays_one, stays_more, at_start, at_now}
use Rattle.sn_census.specs.Counts.{AreCounted, HasFound}
use Rattle.sn_census.specs.Faults.{StandsInLinks}
use Rattle.sn_census.specs.Roots.{IsReadable}
use Rattle.sn_census.proofs.ReadLemmas.{readable}
use Rattle.sn_census.proofs.SumLemmas.{counted_begun}
use Rattle.sn_census.proofs.counting.count_links.Goals as goal

pub load_rows-requires : goal.load_rows-requires
load_rows-requires g c = record {
  read = λ told number.
      (readable c.args.limits.now (g.D.Device.status (device_of c.args.blocks.now)).sectors (store_of (reads (g.D.Device.disk (device_of c.args.blocks.now)))) c.args.file.now (c.requires.checked told)
      c.read_laws.ensures.blocks c.inode_laws.ensures.inodes c.directory_laws.ensures c.number_law.ensures).records number;
}

pub count_names-requires : goal.count_names-requires
count_names-requires g c =
    let s = store_of (reads (g.D.Device.disk (device_of c.args.blocks.now))) in
    let n = (g.D.Device.status (device_of c.args.blocks.now)).sectors in
    let stays = stays_one _ _ _ _ _ c.in_ok-load_rows.ensures.counts.done c.load_rows.ensures.same in
    record {
      readable = λ told. at_now _ _ _ _ _ stays (λ m q. IsReadable c.args.limits.now m q c.args.file.now) told
          (readable c.args.limits.now n s c.args.file.now (c.requires.checked told) c.read_laws.ensures.blocks c.inode_laws.ensures.inodes c.directory_laws.ensures c.number_law.ensures);
      begun = λ told. at_now _ _ _ _ _ stays (λ m q. AreCounted q c.args.file.now 2 c.load_rows.new.census) told
          (let most : c.args.file.now.size / 128 ≤ 65536 = (readable c.args.limits.now n s c.args.file.now (c.requires.checked told) c.read_laws.ensures.blocks c.inode_laws.ensures.inodes c.directory_laws.ensures c.number_law.ensures).most in
          counted_begun s c.args.file.now (min (c.args.file.now.size / 128) 65536) c.load_rows.new.census (omega (arith, most)) (c.in_ok-load_rows.ensures.rows told) (c.in_ok-load_rows.ensures.rest told));
    }

pub test_counted-requires : goal.test_counted-requires
test_counted-requires g c =
    let s = store_of (reads (g.D.Device.disk (device_of c.args.blocks.now))) in
    let n = (g.D.Device.status (device_of c.args.blocks.now)).sectors in
    let first = stays_one _ _ _ _ _ c.in_ok-load_rows.ensures.counts.done c.load_rows.ensures.same in
    let stays = stays_more _ _ _ _ _ _ _ first c.in_ok-count_names.ensures.counts.done c.count_names.ensures.same in
    record {
      readable = λ told. at_now _ _ _ _ _ stays (λ m q. IsReadable c.args.limits.now m q c.args.file.now) told
          (readable c.args.limits.now n s c.args.file.now (c.requires.checked told) c.read_laws.ensures.blocks c.inode_laws.ensures.inodes c.directory_laws.ensures c.number_law.ensures);
      counted = λ told. at_now _ _ _ _ _ stays (λ (m : ℕ) (q : Store). AreCounted q c.args.file.now (c.args.file.now.size / 128) c.count_names.new.census) told
          (at_start _ _ _ _ _ first (λ (m : ℕ) (q : Store). AreCounted q c.args.file.now (c.args.file.now.size / 128) c.count_names.new.census) told (c.in_ok-count_names.ensures.counted told));
    }

pub returns-in_err-load_rows-clause-fault : goal.returns-in_err-load_rows-clause-fault
returns-in_err-load_rows-clause-fault g c told =
    let s = store_of (reads (g.D.Device.disk (device_of c.args.blocks.now))) in
    let p = err_from_is_err_and c.from_residual.result c.from_residual.ensures.1 in
    rw (p.1, p.2) (tells_weaker c.in_err-load_rows.field-0.0 (λ damage block. ⊥) (StandsInLinks s c.args.file.now c.args.body) (λ damage block never. absurd never) (c.in_err-load_rows.ensures.fault told))

pub returns-in_err-count_names-clause-fault : goal.returns-in_err-count_names-clause-fault
returns-in_err-count_names-clause-fault g c told =
    let first = stays_one _ _ _ _ _ c.in_ok-load_rows.ensures.counts.done c.load_rows.ensures.same in
    let p = err_from_is_err_and c.from_residual-in_err-count_names.result c.from_residual-in_err-count_names.ensures.1 in
    rw (p.1, p.2) (at_start _ _ _ _ _ first (λ (m : ℕ) (q : Store). Tells c.in_err-count_names.field-0.0 (StandsInLinks q c.args.file.now c.args.body)) told (c.in_err-count_names.ensures.fault told))

pub returns-clause-linked : goal.returns-clause-linked
returns-clause-linked g c told =
    let s = store_of (reads (g.D.Device.disk (device_of c.args.blocks.now))) in
    let r = store_of (reads (g.D.Device.disk (device_of c.count_names.new.blocks))) in
    let same : r ≡ s = ap (λ (d : Disk). store_of (reads d)) (c.count_names.ensures.same told ∙ c.load_rows.ensures.same told) in
    on_ok_weaker c.test_counted.result (λ (is : IsLinked r c.args.file.now). subst (λ (q : Store). IsLinked q c.args.file.now) same is) (c.test_counted.ensures.linked told)

pub returns-clause-fault : goal.returns-clause-fault
returns-clause-fault g c told =
    let s = store_of (reads (g.D.Device.disk (device_of c.args.blocks.now))) in
    let r = store_of (reads (g.D.Device.disk (device_of c.count_names.new.blocks))) in
    let same : r ≡ s = ap (λ (d : Disk). store_of (reads d)) (c.count_names.ensures.same told ∙ c.load_rows.ensures.same told) in
    told_weaker c.test_counted.result (StandsInLinks r c.args.file.now c.args.body) (StandsInLinks s c.args.file.now c.args.body)
    (λ damage block stands. subst (λ (q : Store). StandsInLinks q c.args.file.now c.args.body damage block) same stands)
    (c.test_counted.ensures.fault told)

pub returns-clause-found : goal.returns-clause-found
returns-clause-found g c told =
    let s = store_of (reads (g.D.Device.disk (device_of c.args.blocks.now))) in
    let r = store_of (reads (g.D.Device.disk (device_of c.count_names.new.blocks))) in
    let same : r ≡ s = ap (λ (d : Disk). store_of (reads d)) (c.count_names.ensures.same told ∙ c.load_rows.ensures.same told) in
    on_ok_weaker c.test_counted.result (λ (is : HasFound r c.args.file.now c.test_counted.new.census). subst (λ (q : Store). HasFound q c.args.file.now c.test_counted.new.census) same is) (c.test_counted.ensures.found told)
