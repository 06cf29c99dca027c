use Rattle.std.proofs.Common.{◌≡◌, ◌/◌, List, [], ◌∷◌, ◌++◌, Err, inl, take, refl, sym, ap, subst, ◌∙◌}
use Rattle.std.proofs.lemmas.List.{take_more}
use Rattle.std.proofs.lemmas.List.Elements.{All-nil, All-push, All-same}
use Rattle.std.proofs.lemmas.Result.{err_from_is_err_and}
use Rattle.sn_device.specs.Disk.{Disk, reads}
use Rattle.sn_device.specs.declared.status.Status.{Status}
use Rattle.sn_block.specs.Lending.{device_of}
use Rattle.sn_layout_node.specs.Inode.{IsRecord}
use Rattle.sn_ondisk.specs.Trees.{store_of}
use Rattle.sn_tree.specs.declared.fault.PlanFault.TheVariants.{Tree}
use Rattle.sn_tree_read.specs.Paths.{block_met}
use Rattle.sn_tree_read.specs.declared.fault.TreeFault.TheVariants.{Damaged}
use Rattle.sn_inode.specs.Reads.{CanReadRecord}
use Rattle.sn_inode.specs.declared.changes.InodeChange.{InodeChange}
use Rattle.sn_inode.specs.declared.changes.StoredRecord.{StoredRecord}
use Rattle.sn_inode.proofs.SettledLemmas.{settled_begun, settled_next}
use Rattle.sn_tree.proofs.ListLemmas.{mapped_there}
use Rattle.sn_inode.proofs.acl_changes.settle.Goals as goal

pub loop-change-init : goal.loop-change-init
loop-change-init g c = record {
  status = refl;
  same = λ told. refl;
  settled = settled_begun _ _ _ c.new-stored.result.items _ c.new-stored.ensures.items;
  valid = All-same (λ (x : StoredRecord). IsRecord c.args.limits.now x.record) c.new-stored.result.items [] c.new-stored.ensures.items (All-nil (λ (x : StoredRecord). IsRecord c.args.limits.now x.record));
}

pub loop-change-preserved : goal.loop-change-preserved
loop-change-preserved g c =
    let k = c.loop-change.change-index in
    let item = c.change-item.result in
    let more = take_more c.args.changes.now k item c.loop-change-test.true ∙ ap (λ (x : InodeChange). take k c.args.changes.now ++ x ∷ []) (sym c.change-item.is) in
    let pushed = c.push_reserved.ensures.items ∙ ap (λ (xs : List StoredRecord). xs ++ c.in_ok-record.record ∷ []) c.in_ok-reserve.ensures.items in
    record {
      status = c.in_ok-record.ensures.counts.other (λ is. cc) ∙ c.loop-change.invariant.status;
      same = λ told. c.settled.ensures.same told ∙ c.loop-change.invariant.same told;
      settled = settled_next _ _ c.args.file.now _ (take k c.args.changes.now) _ item c.loop-change.stored.items c.push_reserved.new.self.items c.in_ok-record.record c.args.build.now c.loop-change.build c.settled.new.build
          more pushed (λ told. ap (λ (d : Disk). store_of (reads d)) (c.loop-change.invariant.same told)) c.loop-change.invariant.settled c.in_ok-record.ensures.settled;
      valid = All-same (λ (x : StoredRecord). IsRecord c.args.limits.now x.record) c.push_reserved.new.self.items _ pushed
          (All-push (λ (x : StoredRecord). IsRecord c.args.limits.now x.record) c.loop-change.stored.items c.in_ok-record.record c.loop-change.invariant.valid c.in_ok-record.ensures.valid);
    }

pub returns-in_err-record-clause-damaged : goal.returns-in_err-record-clause-damaged
returns-in_err-record-clause-damaged g c told block is =
    let p = err_from_is_err_and c.from_residual.result c.from_residual.ensures.1 in
    let fault : c.in_err-record.field-0.0 ≡ Tree (Damaged block) = cc (p.1, p.2) in
    let item = c.change-item.result in
    let sectors = (g.D.Device.status (device_of c.loop-change.blocks)).sectors in
    let here = subst (λ (t : Status). (CanReadRecord c.args.limits.now t.sectors (store_of (reads (g.D.Device.disk (device_of c.args.blocks.now)))) c.args.file.now item.number → ⊥) × (block ≡ block_met t.sectors (store_of (reads (g.D.Device.disk (device_of c.args.blocks.now)))) c.args.file.now (item.number / 32))) c.loop-change.invariant.status
    (subst (λ (d : Disk). (CanReadRecord c.args.limits.now sectors (store_of (reads d)) c.args.file.now item.number → ⊥) × (block ≡ block_met sectors (store_of (reads d)) c.args.file.now (item.number / 32))) (c.loop-change.invariant.same told)
    (c.in_err-record.ensures.damaged told block (ap (λ f. Err f) fault))) in
    inl (
      item.number,
      mapped_there (λ (x : InodeChange). x.number) c.args.changes.now c.loop-change.change-index item c.loop-change-test.true c.change-item.is,
      here.0,
      here.1,
    )
