use Rattle.std.proofs.Common.{◌≡◌, ◌/◌, ◌<◌, ◌≤◌, Err, List, [], ◌∷◌, ◌++◌, length, map, slice_index, take, false, refl, sym, ap, subst, ◌∙◌, arith}
use Rattle.std.proofs.lemmas.List.{take_more, take_all, get_or-map, length-map}
use Rattle.std.proofs.lemmas.List.Elements.{All-nil, All-same, All-weaker}
use Rattle.std.proofs.lemmas.Result.{err_from_is_err_and}
use Rattle.sn_device.specs.Disk.{Disk, reads}
use Rattle.sn_device.specs.declared.status.Status.{Status}
use Rattle.sn_block.specs.Lending.{device_of}
use Rattle.sn_ondisk.specs.Trees.{store_of, data_block}
use Rattle.sn_tree.specs.Dirty.{IsFrom}
use Rattle.sn_tree.specs.declared.fault.PlanFault.TheVariants.{Tree}
use Rattle.sn_tree.specs.declared.new_block.DirtyBlock.{DirtyBlock}
use Rattle.sn_tree_read.specs.Paths.{block_lies_on, block_met}
use Rattle.sn_tree_read.specs.declared.fault.TreeFault.TheVariants.{Damaged}
use Rattle.sn_inode.specs.declared.changes.StoredRecord.{StoredRecord}
use Rattle.sn_inode.specs.Stored.{ArePatched}
use Rattle.sn_inode.proofs.BlockLemmas.{patched_none, patched_next, rising_to}
use Rattle.sn_tree.proofs.ListLemmas.{mapped_there}
use Rattle.sn_inode.proofs.record_blocks.patched.Goals as goal

pub loop-next-preserved : goal.loop-next-preserved
loop-next-preserved g c =
    let k = c.loop-next.next-index in
    let item = c.next-item.result in
    let stored = c.args.stored.now in
    let numbers = map (λ (x : StoredRecord). x.number) stored in
    let within : k < length stored = c.loop-next-test.true in
    let more = take_more stored k item within ∙ ap (λ (x : StoredRecord). take k stored ++ x ∷ []) (sym c.next-item.is) in
    let number : slice_index numbers k ≡ item.number = get_or-map (λ (x : StoredRecord). x.number) stored k item 0 within ∙ ap (λ (x : StoredRecord). x.number) (sym c.next-item.is) in
    record {
      status = c.in_ok-store_record.ensures.counts.other (λ is. cc) ∙ c.loop-next.invariant.status;
      same = λ told. c.store_record.ensures.same told ∙ c.loop-next.invariant.same told;
      patched = λ told.
          patched_next _ _ (c.args.file.now.size / 4096) (take k stored) _ item c.loop-next.dirty.items c.store_record.new.dirty.items
          (ap (λ (d : Disk). data_block (store_of (reads d)) c.args.file.now) (c.loop-next.invariant.same told)) more
          (c.in_ok-store_record.ensures.patched told) (c.loop-next.invariant.patched told);
      rise = c.in_ok-store_record.ensures.rise;
      most = λ i from under.
          let later : slice_index numbers k ≤ slice_index numbers i = rising_to numbers c.requires.rise k i (omega (arith, from)) (omega (arith, under, length-map stored (λ (x : StoredRecord). x.number))) in
          All-weaker (λ (d : DirtyBlock). d.index ≤ item.number / 32) (λ (d : DirtyBlock). d.index ≤ slice_index numbers i / 32) (λ d le. omega (arith, le, later, number)) c.store_record.new.dirty.items c.in_ok-store_record.ensures.most;
      count = omega (arith, c.in_ok-store_record.ensures.count, c.loop-next.invariant.count);
    }

pub loop-next-init : goal.loop-next-init
loop-next-init g c =
    let none = c.new-dirty.ensures.items in
    let numbers = map (λ (x : StoredRecord). x.number) c.args.stored.now in
    record {
      status = refl;
      same = λ told. refl;
      patched = λ told.
          let old = data_block (store_of (reads (g.D.Device.disk (device_of c.args.blocks.now)))) c.args.file.now in
          subst (λ (ds : List DirtyBlock). ArePatched old (c.args.file.now.size / 4096) [] ds) (sym none) (patched_none old (c.args.file.now.size / 4096));
      rise = subst (λ (ds : List DirtyBlock). IsFrom 0 ds) (sym none) tt;
      most = λ i from within. All-same (λ (d : DirtyBlock). d.index ≤ slice_index numbers i / 32) c.new-dirty.result.items [] none (All-nil (λ (d : DirtyBlock). d.index ≤ slice_index numbers i / 32));
      count = let few : length c.new-dirty.result.items ≡ 0 = ap (λ (ds : List DirtyBlock). length ds) none in omega (arith, few);
    }

pub store_record-requires-clause-most : goal.store_record-requires-clause-most
store_record-requires-clause-most g c =
    let k = c.loop-next.next-index in
    let item = c.next-item.result in
    let stored = c.args.stored.now in
    let numbers = map (λ (x : StoredRecord). x.number) stored in
    let number : slice_index numbers k ≡ item.number = get_or-map (λ (x : StoredRecord). x.number) stored k item 0 c.loop-next-test.true ∙ ap (λ (x : StoredRecord). x.number) (sym c.next-item.is) in
    All-weaker (λ (d : DirtyBlock). d.index ≤ slice_index numbers k / 32) (λ (d : DirtyBlock). d.index ≤ item.number / 32) (λ d le. omega (arith, le, number)) c.loop-next.dirty.items (c.loop-next.invariant.most k (omega arith) c.loop-next-test.true)

pub returns-in_err-store_record-clause-damaged : goal.returns-in_err-store_record-clause-damaged
returns-in_err-store_record-clause-damaged g c = λ told block is.
    let p = err_from_is_err_and c.from_residual.result c.from_residual.ensures.1 in
    let fault : c.in_err-store_record.field-0.0 ≡ Tree (Damaged block) = cc (p.1, p.2) in
    let item = c.next-item.result in
    let here = c.in_err-store_record.ensures.damaged told block (ap (λ f. Err f) fault) in
    let sectors = (g.D.Device.status (device_of c.loop-next.blocks)).sectors in
    let off = subst (λ (t : Status). (block_lies_on t.sectors (store_of (reads (g.D.Device.disk (device_of c.args.blocks.now)))) c.args.file.now (item.number / 32) ≡ false) × (block ≡ block_met t.sectors (store_of (reads (g.D.Device.disk (device_of c.args.blocks.now)))) c.args.file.now (item.number / 32))) c.loop-next.invariant.status
    (subst (λ (d : Disk). (block_lies_on sectors (store_of (reads d)) c.args.file.now (item.number / 32) ≡ false) × (block ≡ block_met sectors (store_of (reads d)) c.args.file.now (item.number / 32))) (c.loop-next.invariant.same told) (here.1, here.2)) in (
      item.number,
      mapped_there (λ (x : StoredRecord). x.number) c.args.stored.now c.loop-next.next-index item c.loop-next-test.true c.next-item.is,
      here.0,
      off.0,
      off.1,
    )

pub returns-clause-patched : goal.returns-clause-patched
returns-clause-patched g c = λ told.
    let old = data_block (store_of (reads (g.D.Device.disk (device_of c.args.blocks.now)))) c.args.file.now in
    let all : take c.loop-next.next-index c.args.stored.now ≡ c.args.stored.now = take_all c.loop-next.next-index c.args.stored.now (omega (arith, c.loop-next-test.false)) in
    subst (λ (xs : List StoredRecord). ArePatched old (c.args.file.now.size / 4096) xs c.loop-next.dirty.items) all (c.loop-next.invariant.patched told)
