use Rattle.std.proofs.Common.{◌≡◌, ◌≢◌, inl, inr, ℕ, ◌/◌, ◌+◌, ◌-◌, ◌*◌, ◌<◌, ◌≤◌, List, Err, slice_index, length, map, IsTrue, refl, sym, ap, subst, ◌∙◌, arith, length-append}
use Rattle.std.specs.Prelude.{All}
use Rattle.std.proofs.lemmas.Bool.{eqb-true, eqb-false, true≢false}
use Rattle.std.proofs.lemmas.List.{length-map}
use Rattle.std.proofs.lemmas.Result.{err_from_is_err_and}
use Rattle.sn_device.specs.Disk.{Disk, reads}
use Rattle.sn_device.specs.declared.status.Status.{Status}
use Rattle.sn_block.specs.Lending.{device_of}
use Rattle.sn_ondisk.specs.Trees.{Store, store_of, data_block, tree_reach}
use Rattle.sn_tree.specs.Steps.{LeadsOutsideAt}
use Rattle.sn_tree.specs.declared.fault.PlanFault.TheVariants.{Tree}
use Rattle.sn_tree.specs.declared.new_block.DirtyBlock.{DirtyBlock}
use Rattle.sn_tree_read.specs.declared.fault.TreeFault.TheVariants.{Damaged}
use Rattle.sn_inode.specs.Changes.{numbers_in}
use Rattle.sn_inode.specs.Stored.{ArePatched, IsOffAt}
use Rattle.sn_inode.specs.declared.changes.InodeChange.{InodeChange}
use Rattle.sn_inode.specs.declared.changes.StoredRecord.{StoredRecord}
use Rattle.sn_layout.specs.Pointers.{levels_of}
use Rattle.sn_alloc.specs.Taking.{free_data}
use Rattle.sn_tree.specs.Drafts.{Draft}
use Rattle.sn_inode.proofs.WithLemmas.{few_paths, with_none, empty_list, has_number, all_below, with_result, file_result}
use Rattle.sn_inode.proofs.planning.with.Goals as goal

pub returns-then-is_empty-clause-with : goal.returns-then-is_empty-clause-with
returns-then-is_empty-clause-with g c =
    with_none _ c.args.limits.now _ c.args.file.now c.args.changes.now c.args.build.now (empty_list c.args.changes.now (eqb-true (length c.args.changes.now) 0 (sym c.is_empty.ensures ∙ c.if-is_empty.true)))

pub returns-in_err-dirty-clause-damaged : goal.returns-in_err-dirty-clause-damaged
returns-in_err-dirty-clause-damaged g c = λ told block is.
    let p = err_from_is_err_and c.from_residual-in_err-dirty.result c.from_residual-in_err-dirty.ensures.1 in
    let fault : c.in_err-dirty.field-0.0 ≡ Tree (Damaged block) = cc (p.1, p.2) in
    let file = c.args.file.now in
    let status = g.D.Device.status (device_of c.settle.new.blocks) in
    let there = c.in_err-dirty.ensures.damaged told block (ap (λ f. Err f) fault) in
    let named : IsOffAt status.sectors (store_of (reads (g.D.Device.disk (device_of c.settle.new.blocks)))) file (numbers_in c.args.changes.now) block =
    subst (λ (ns : List ℕ). IsOffAt status.sectors (store_of (reads (g.D.Device.disk (device_of c.settle.new.blocks)))) file ns block) (ap (λ (xs : List StoredRecord). map (λ (x : StoredRecord). x.number) xs) c.as_slice.ensures.value ∙ c.in_ok-stored.ensures.settled.numbers) there in
    let here : IsOffAt (g.D.Device.status (device_of c.args.blocks.now)).sectors (store_of (reads (g.D.Device.disk (device_of c.args.blocks.now)))) file (numbers_in c.args.changes.now) block =
    subst (λ (s : Status). IsOffAt s.sectors (store_of (reads (g.D.Device.disk (device_of c.args.blocks.now)))) file (numbers_in c.args.changes.now) block) (c.in_ok-stored.ensures.counts.other (λ is. cc))
    (subst (λ (d : Disk). IsOffAt status.sectors (store_of (reads d)) file (numbers_in c.args.changes.now) block) (c.settle.ensures.same told) named) in
    let (number, among, under, off, met) = here in
    inl (
      number,
      among,
      λ can. true≢false (sym (can.lies (has_number c.args.limits.now file c.args.changes.now number c.requires.file.whole c.requires.changes among under)) ∙ off),
      met,
    )

pub plan_tree-requires : goal.plan_tree-requires
plan_tree-requires g c =
    let file = c.args.file.now in
    let changes = c.args.changes.now in
    let stored = c.in_ok-stored.stored.items in
    let dirty = c.in_ok-dirty.dirty.items in
    let s = store_of (reads (g.D.Device.disk (device_of c.args.blocks.now))) in
    let other : length changes ≢ 0 = eqb-false (length changes) 0 (sym c.is_empty.ensures ∙ c.if-is_empty.false) in
    let settled = c.in_ok-stored.ensures.settled in
    let long : length stored ≡ length changes = sym (length-map stored (λ (x : StoredRecord). x.number)) ∙ ap (λ (ns : List ℕ). length ns) settled.numbers ∙ length-map changes (λ (x : InodeChange). x.number) in
    let most = subst (λ (xs : List StoredRecord). (i : ℕ) → i + 1 ≡ length xs → All (λ (d : DirtyBlock). d.index ≤ slice_index (map (λ (x : StoredRecord). x.number) xs) i / 32) dirty) c.as_slice.ensures.value c.in_ok-dirty.ensures.most in
    record {
      rise = c.in_ok-dirty.ensures.rise;
      begins = all_below (IsTrue g.D.Device.tells_bytes) c.args.limits.now s s file changes stored (file.size / 4096) c.size_with.result dirty c.args.build.now c.settle.new.build c.settle.new.build
          refl c.requires.file c.size_with.ensures.value (c.size_with.ensures.most c.fits.ensures) c.requires.changes c.requires.rise (λ none. other (ap (λ (cs : List InodeChange). length cs) none)) (omega (arith, other))
          (length changes - 1) (omega (arith, other)) settled.numbers (most (length changes - 1) (omega (arith, other, long)));
    }

pub returns-clause-with : goal.returns-clause-with
returns-clause-with g c =
    let Told = IsTrue g.D.Device.tells_bytes in
    let file = c.args.file.now in
    let changes = c.args.changes.now in
    let stored = c.in_ok-stored.stored.items in
    let dirty = c.in_ok-dirty.dirty.items in
    let s = store_of (reads (g.D.Device.disk (device_of c.args.blocks.now))) in
    let other : length changes ≢ 0 = eqb-false (length changes) 0 (sym c.is_empty.ensures ∙ c.if-is_empty.false) in
    let slice : c.as_slice.result.now ≡ stored = c.as_slice.ensures.value in
    let first : Told → store_of (reads (g.D.Device.disk (device_of c.settle.new.blocks))) ≡ s = λ told. ap (λ (d : Disk). store_of (reads d)) (c.settle.ensures.same told) in
    with_result Told c.args.limits.now s _ file changes stored (file.size / 4096) c.size_with.result dirty c.args.build.now c.settle.new.build c.plan_tree.new.build
    refl c.requires.file c.size_with.ensures.value (c.size_with.ensures.most c.fits.ensures) c.requires.changes c.requires.rise (λ none. other (ap (λ (cs : List InodeChange). length cs) none)) (omega (arith, other))
    c.plan_tree.result (λ told. ap (λ (d : Disk). store_of (reads d)) (c.patched.ensures.same told ∙ c.settle.ensures.same told))
    c.in_ok-stored.ensures.valid
    (subst (λ (xs : List StoredRecord). (i : ℕ) → i + 1 ≡ length xs → All (λ (d : DirtyBlock). d.index ≤ slice_index (map (λ (x : StoredRecord). x.number) xs) i / 32) dirty) slice c.in_ok-dirty.ensures.most)
    (subst (λ (xs : List StoredRecord). length dirty ≤ length xs) slice c.in_ok-dirty.ensures.count)
    (λ told. subst (λ (u : Store). ArePatched (data_block u file) (file.size / 4096) stored dirty) (first told) (subst (λ (xs : List StoredRecord). ArePatched (data_block (store_of (reads (g.D.Device.disk (device_of c.settle.new.blocks)))) file) (file.size / 4096) xs dirty) slice (c.in_ok-dirty.ensures.patched told)))
    c.in_ok-stored.ensures.settled c.plan_tree.ensures.size c.plan_tree.ensures.planned

pub returns-clause-file : goal.returns-clause-file
returns-clause-file g c = λ full.
    let other : length c.args.changes.now ≢ 0 = eqb-false (length c.args.changes.now) 0 (sym c.is_empty.ensures ∙ c.if-is_empty.false) in
    let s = store_of (reads (g.D.Device.disk (device_of c.args.blocks.now))) in
    file_result (IsTrue g.D.Device.tells_bytes) c.args.limits.now s s c.args.file.now c.args.changes.now c.in_ok-stored.stored.items (c.args.file.now.size / 4096) c.size_with.result c.in_ok-dirty.dirty.items c.args.build.now c.settle.new.build c.plan_tree.new.build
    refl c.requires.file c.size_with.ensures.value (c.size_with.ensures.most c.fits.ensures) c.requires.changes c.requires.rise (λ none. other (ap (λ (cs : List InodeChange). length cs) none)) (omega (arith, other)) c.plan_tree.result full c.plan_tree.ensures.size

pub returns-clause-damaged : goal.returns-clause-damaged
returns-clause-damaged g c told block is =
    let file = c.args.file.now in
    let sectors = (g.D.Device.status (device_of c.patched.new.blocks)).sectors in
    let disk : g.D.Device.disk (device_of c.patched.new.blocks) ≡ g.D.Device.disk (device_of c.args.blocks.now) = c.patched.ensures.same told ∙ c.settle.ensures.same told in
    inr (subst (λ (n : ℕ). LeadsOutsideAt n (tree_reach (store_of (reads (g.D.Device.disk (device_of c.args.blocks.now)))) file) block) (c.patched.ensures.counts.sectors ∙ c.settle.ensures.counts.sectors)
    (subst (λ (d : Disk). LeadsOutsideAt sectors (tree_reach (store_of (reads d)) file) block) disk (c.plan_tree.ensures.damaged told block is)))

pub returns-clause-full : goal.returns-clause-full
returns-clause-full g c = λ is.
    let changes = c.args.changes.now in
    let stored = c.in_ok-stored.stored.items in
    let dirty = c.in_ok-dirty.dirty.items in
    let settled = c.in_ok-stored.ensures.settled in
    let long : length stored ≡ length changes = sym (length-map stored (λ (x : StoredRecord). x.number)) ∙ ap (λ (ns : List ℕ). length ns) settled.numbers ∙ length-map changes (λ (x : InodeChange). x.number) in
    let few : length dirty ≤ length changes = omega (arith, subst (λ (xs : List StoredRecord). length dirty ≤ length xs) c.as_slice.ensures.value c.in_ok-dirty.ensures.count, long) in
    let paths = few_paths c.size_with.result (length dirty) (length changes) (c.size_with.ensures.most c.fits.ensures) few in
    omega (arith, subst (λ (d : Draft). free_data d.words d.first < length d.added + (levels_of c.size_with.result + 1) * (length dirty + 1)) settled.grew (c.plan_tree.ensures.full is), length-append c.args.build.now.added settled.added, settled.few, paths)
