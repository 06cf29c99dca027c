use Rattle.std.proofs.Common.{◌≡◌, ℕ, List, Err, refl, sym, ap, subst, ◌∙◌}
use Rattle.std.proofs.lemmas.Result.{err_from_is_err_and}
use Rattle.sn_device.specs.Disk.{Disk, reads}
use Rattle.sn_block.specs.Lending.{device_of}
use Rattle.sn_layout_node.specs.Directory.{Link, IsDirectoryBlock}
use Rattle.sn_model.specs.declared.fault.Damage.TheVariants.{Misspelt}
use Rattle.sn_ondisk.specs.Trees.{Store, store_of, data_block}
use Rattle.sn_image.specs.Names.{names_in}
use Rattle.sn_dir.specs.Blocks.{CanRead}
use Rattle.sn_marks.proofs.WalkLemmas.{tells_weaker, told_weaker}
use Rattle.sn_check_root.specs.Reading.{TreeLies}
use Rattle.sn_check_root.proofs.DeviceLemmas.{stays_one, stays_more, at_start, at_now}
use Rattle.sn_check_root.proofs.WrongLemmas.{counts_own}
use Rattle.sn_census.specs.Counts.{HasSpare, blamed}
use Rattle.sn_census.specs.Faults.{IsAt, StandsInLinks}
use Rattle.sn_census.specs.Rows.{row_at}
use Rattle.sn_census.proofs.CountLemmas.{counts_alike}
use Rattle.sn_census.proofs.FaultLemmas.{at_stands, never_ok, never_read, spare_stands}
use Rattle.sn_census.proofs.ReadLemmas.{name_in}
use Rattle.sn_census.proofs.naming.count_block.Goals as goal

pub pointer_to-requires : goal.pointer_to-requires
pointer_to-requires g c = record { lies = λ told. ((c.requires.readable told).directories c.args.directory c.args.tree.now (c.requires.tree told)).lies }

pub fetch_names-requires : goal.fetch_names-requires
fetch_names-requires g c = record {
  read = λ told.
      let stays = stays_one _ _ _ _ _ c.in_ok-pointer.ensures.counts.done c.pointer_to.ensures.same in
      at_now _ _ _ _ _ stays (λ n q. CanRead n q c.args.tree.now c.args.i) told
      (((c.requires.readable told).directories c.args.directory c.args.tree.now (c.requires.tree told)).each c.args.i c.requires.within);
}

pub spare_fault-requires : goal.spare_fault-requires
spare_fault-requires g c = record {
  lies = λ told.
      let first = stays_one _ _ _ _ _ c.in_ok-pointer.ensures.counts.done c.pointer_to.ensures.same in
      let stays = stays_more _ _ _ _ _ _ _ first c.in_ok-fetch_names.ensures.counts.done c.fetch_names.ensures.same in
      at_now _ _ _ _ _ stays (λ n q. TreeLies n q c.args.file.now) told (c.requires.readable told).file;
}

pub returns-in_err-pointer-clause-fault : goal.returns-in_err-pointer-clause-fault
returns-in_err-pointer-clause-fault g c told =
    let s = store_of (reads (g.D.Device.disk (device_of c.args.blocks.now))) in
    let p = err_from_is_err_and c.from_residual.result c.from_residual.ensures.1 in
    rw (p.1, p.2) (tells_weaker c.in_err-pointer.field-0.0 (λ damage block. ⊥) (StandsInLinks s c.args.file.now c.args.body) (λ damage block never. absurd never) (c.in_err-pointer.ensures.fault told))

pub returns-in_err-fetch_names-clause-fault : goal.returns-in_err-fetch_names-clause-fault
returns-in_err-fetch_names-clause-fault g c told =
    let s = store_of (reads (g.D.Device.disk (device_of c.args.blocks.now))) in
    let p = err_from_is_err_and c.from_residual-in_err-fetch_names.result c.from_residual-in_err-fetch_names.ensures.1 in
    rw (p.1, p.2) (tells_weaker c.in_err-fetch_names.field-0.0 (λ damage block. ⊥) (StandsInLinks s c.args.file.now c.args.body) (λ damage block never. absurd never) (c.in_err-fetch_names.ensures.fault told))

pub returns-in_err-names-clause-fault : goal.returns-in_err-names-clause-fault
returns-in_err-names-clause-fault g c told =
    let first = stays_one _ _ _ _ _ c.in_ok-pointer.ensures.counts.done c.pointer_to.ensures.same in
    let bytes = at_start _ _ _ _ _ first (λ (m : ℕ) (r : Store). c.fetched.result.now ≡ data_block r c.args.tree.now c.args.i) told (c.fetched.ensures.value ∙ c.in_ok-fetch_names.ensures.block told) in
    let can = ((c.requires.readable told).directories c.args.directory c.args.tree.now (c.requires.tree told)).each c.args.i c.requires.within in
    absurd (c.in_err-names.ensures.spelled (subst IsDirectoryBlock (sym bytes) can.spelled))

pub returns-in_err-names-clause-counts : goal.returns-in_err-names-clause-counts
returns-in_err-names-clause-counts g c =
    let p = err_from_is_err_and c.from_residual-in_err-names.result c.from_residual-in_err-names.ensures.1 in
    rw (p.1, p.2) (counts_own (Err c.in_err-names.field-0.0) _ _ (c.in_ok-fetch_names.ensures.counts.done ∙ c.in_ok-pointer.ensures.counts.done)
    (never_read Misspelt c.args.body c.in_err-names.field-0.0 (Err c.in_err-names.field-0.0) refl c.in_err-names.ensures.own))

pub returns-in-None-clause-counted : goal.returns-in-None-clause-counted
returns-in-None-clause-counted g c told =
    let first = stays_one _ _ _ _ _ c.in_ok-pointer.ensures.counts.done c.pointer_to.ensures.same in
    let bytes = at_start _ _ _ _ _ first (λ (m : ℕ) (r : Store). c.fetched.result.now ≡ data_block r c.args.tree.now c.args.i) told (c.fetched.ensures.value ∙ c.in_ok-fetch_names.ensures.block told) in
    counts_alike c.args.directory _ _ _ _ (c.in_ok-names.ensures.names ∙ ap names_in bytes) c.in-None.ensures.counted

pub returns-in-Some-clause-counted : goal.returns-in-Some-clause-counted
returns-in-Some-clause-counted g c told = never_ok _ c.spare_fault.result c.spare_fault.ensures.never

pub returns-in-Some-clause-fault : goal.returns-in-Some-clause-fault
returns-in-Some-clause-fault g c told =
    let s = store_of (reads (g.D.Device.disk (device_of c.args.blocks.now))) in
    let r = store_of (reads (g.D.Device.disk (device_of c.fetch_names.new.blocks))) in
    let same : r ≡ s = ap (λ (d : Disk). store_of (reads d)) (c.fetch_names.ensures.same told ∙ c.pointer_to.ensures.same told) in
    let first = stays_one _ _ _ _ _ c.in_ok-pointer.ensures.counts.done c.pointer_to.ensures.same in
    let bytes = at_start _ _ _ _ _ first (λ (m : ℕ) (q : Store). c.fetched.result.now ≡ data_block q c.args.tree.now c.args.i) told (c.fetched.ensures.value ∙ c.in_ok-fetch_names.ensures.block told) in
    let spare = subst (λ (names : List Link). HasSpare names c.in-Some.number c.args.census.now c.count_entries.new.census) (c.in_ok-names.ensures.names ∙ ap names_in bytes) c.in-Some.ensures.spare in
    let stands = spare_stands s c.args.file.now c.args.body (names_in (data_block s c.args.tree.now c.args.i)) c.in-Some.number c.in_ok-pointer.pointer c.args.directory c.args.census.now c.count_entries.new.census
    (c.requires.room told) spare (name_in s c.args.file.now c.args.directory c.args.i c.in_ok-pointer.pointer c.args.tree.now (c.requires.tree told) c.requires.within (c.in_ok-pointer.ensures.pointer told)) in
    told_weaker c.spare_fault.result
    (IsAt (blamed r c.args.file.now c.args.body c.in_ok-pointer.pointer c.in-Some.number (row_at c.count_entries.new.census c.in-Some.number).kind))
    (StandsInLinks s c.args.file.now c.args.body)
    (λ damage block at. at_stands s c.args.file.now c.args.body _ damage block stands
    (subst (λ (q : Store). IsAt (blamed q c.args.file.now c.args.body c.in_ok-pointer.pointer c.in-Some.number (row_at c.count_entries.new.census c.in-Some.number).kind) damage block) same at))
    (c.spare_fault.ensures.fault told)
