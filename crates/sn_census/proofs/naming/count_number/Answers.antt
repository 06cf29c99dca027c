use Rattle.std.proofs.Common.{◌≡◌, List, Some, sym, ap, subst, ◌∙◌}
use Rattle.std.proofs.lemmas.Result.{err_from_is_err_and, on_ok_weaker}
use Rattle.sn_device.specs.Disk.{Disk, reads}
use Rattle.sn_block.specs.Lending.{device_of}
use Rattle.sn_layout_node.specs.Directory.{Link}
use Rattle.sn_ondisk.specs.Trees.{Store, store_of}
use Rattle.sn_image.specs.Inodes.{inode_at}
use Rattle.sn_image.specs.Names.{names_by}
use Rattle.sn_marks.proofs.WalkLemmas.{tells_weaker, told_weaker}
use Rattle.sn_check_root.proofs.DeviceLemmas.{stays_one, at_now}
use Rattle.sn_check_root.proofs.InodeLemmas.{names_are}
use Rattle.sn_census.specs.Counts.{HasRoom}
use Rattle.sn_census.specs.Faults.{StandsInLinks}
use Rattle.sn_census.specs.Roots.{IsReadable}
use Rattle.sn_census.proofs.CountLemmas.{counts_alike, counts_none}
use Rattle.sn_census.proofs.SumLemmas.{none_at}
use Rattle.sn_census.proofs.naming.count_number.Goals as goal

pub inode_of-requires : goal.inode_of-requires
inode_of-requires g c = record { read = λ told. (c.requires.readable told).records c.args.number }

pub count_inode-requires : goal.count_inode-requires
count_inode-requires g c =
    let s = store_of (reads (g.D.Device.disk (device_of c.args.blocks.now))) in
    let stays = stays_one _ _ _ _ _ c.in_ok-inode.ensures.counts.done c.inode_of.ensures.same in
    record {
      readable = λ told. at_now _ _ _ _ _ stays (λ n q. IsReadable c.args.limits.now n q c.args.file.now) told (c.requires.readable told);
      inode = λ told. at_now _ _ _ _ _ stays (λ n q. inode_at q c.args.file.now c.args.number ≡ Some c.in-Some.inode) told (sym (c.in_ok-inode.ensures.inode told) ∙ c.in-Some.is);
      room = λ told. at_now _ _ _ _ _ stays (λ n q. HasRoom q c.args.file.now (names_by q c.in-Some.inode.kind c.in-Some.inode.content) c.args.census.now) told
          (subst (λ (names : List Link). HasRoom s c.args.file.now names c.args.census.now) (sym (names_are c.args.limits.now s c.args.file.now c.args.number c.in-Some.inode (sym (c.in_ok-inode.ensures.inode told) ∙ c.in-Some.is))) (c.requires.room told));
    }

pub returns-in_err-inode-clause-fault : goal.returns-in_err-inode-clause-fault
returns-in_err-inode-clause-fault g c told =
    let s = store_of (reads (g.D.Device.disk (device_of c.args.blocks.now))) in
    let p = err_from_is_err_and c.from_residual.result c.from_residual.ensures.1 in
    rw (p.1, p.2) (tells_weaker c.in_err-inode.field-0.0 (λ damage block. ⊥) (StandsInLinks s c.args.file.now c.args.body) (λ damage block never. absurd never) (c.in_err-inode.ensures.fault told))

pub returns-in-Some-clause-counted : goal.returns-in-Some-clause-counted
returns-in-Some-clause-counted g c told =
    let s = store_of (reads (g.D.Device.disk (device_of c.args.blocks.now))) in
    let r = store_of (reads (g.D.Device.disk (device_of c.inode_of.new.blocks))) in
    let same : r ≡ s = ap (λ (d : Disk). store_of (reads d)) (c.inode_of.ensures.same told) in
    on_ok_weaker c.count_inode.result
    (λ counts. counts_alike c.args.number _ _ c.args.census.now c.count_inode.new.census
    (ap (λ (q : Store). names_by q c.in-Some.inode.kind c.in-Some.inode.content) same ∙ names_are c.args.limits.now s c.args.file.now c.args.number c.in-Some.inode (sym (c.in_ok-inode.ensures.inode told) ∙ c.in-Some.is)) counts)
    (c.count_inode.ensures.counted told)

pub returns-in-Some-clause-fault : goal.returns-in-Some-clause-fault
returns-in-Some-clause-fault g c told =
    let s = store_of (reads (g.D.Device.disk (device_of c.args.blocks.now))) in
    let r = store_of (reads (g.D.Device.disk (device_of c.inode_of.new.blocks))) in
    let same : r ≡ s = ap (λ (d : Disk). store_of (reads d)) (c.inode_of.ensures.same told) in
    told_weaker c.count_inode.result (StandsInLinks r c.args.file.now c.args.body) (StandsInLinks s c.args.file.now c.args.body)
    (λ damage block stands. subst (λ (q : Store). StandsInLinks q c.args.file.now c.args.body damage block) same stands)
    (c.count_inode.ensures.fault told)

pub returns-in-None-clause-counted : goal.returns-in-None-clause-counted
returns-in-None-clause-counted g c told =
    let s = store_of (reads (g.D.Device.disk (device_of c.args.blocks.now))) in
    counts_alike c.args.number _ _ c.args.census.now c.args.census.now (sym (none_at s c.args.file.now c.args.number (sym (c.in_ok-inode.ensures.inode told) ∙ c.in-None.is))) (counts_none c.args.number c.args.census.now)
