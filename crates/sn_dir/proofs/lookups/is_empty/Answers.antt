use Rattle.std.proofs.Common.{◌≡◌, ℕ, ◌+◌, ◌/◌, ◌<◌, ◌≤◌, ◌==◌, List, [], Err, length, refl, sym, ap, ◌∙◌, arith}
use Rattle.std.proofs.lemmas.Result.{err_from_is_err_and}
use Rattle.sn_device.specs.Disk.{reads}
use Rattle.sn_block.specs.Lending.{device_of}
use Rattle.sn_layout_node.specs.Directory.{Link}
use Rattle.sn_ondisk.specs.Trees.{Store, store_of, data_block}
use Rattle.sn_image.specs.Names.{names_in}
use Rattle.sn_tree_read.specs.declared.fault.TreeFault.TheVariants.{Damaged}
use Rattle.sn_dir.specs.Blocks.{names_before}
use Rattle.sn_dir.proofs.NameLemmas.{none_more, some_later, not_zero}
use Rattle.sn_dir.proofs.ReadingLemmas.{reading_begun, at_start, reading_more, damaged_here, all_read, enough_read}
use Rattle.sn_dir.proofs.lookups.is_empty.Goals as goal

pub loop-i-init : goal.loop-i-init
loop-i-init g c = record { reading = reading_begun _ _ _ _; none = λ told. refl }

pub loop-i-preserved : goal.loop-i-preserved
loop-i-preserved g c = record {
  reading = reading_more _ c.args.tree.now c.loop-i.i _ _ _ _ c.loop-i.invariant.reading _ _ c.in_ok-names.ensures.counts.done c.count_in.ensures.same c.in_ok-names.ensures.read;
  none = λ told.
      let s = store_of (reads (g.D.Device.disk (device_of c.args.blocks.now))) in
      let here : c.in_ok-names.names ≡ length (names_in (data_block s c.args.tree.now c.loop-i.i)) =
      at_start _ c.args.tree.now c.loop-i.i _ _ _ _ c.loop-i.invariant.reading (λ (n : ℕ) (r : Store). c.in_ok-names.names ≡ length (names_in (data_block r c.args.tree.now c.loop-i.i))) told (c.in_ok-names.ensures.count told) in
      none_more s c.args.tree.now c.loop-i.i (c.loop-i.invariant.none told) (omega (arith, here, c.if-names-gt0.false));
}

pub returns-in_err-names-clause-damaged : goal.returns-in_err-names-clause-damaged
returns-in_err-names-clause-damaged g c told block is =
    let p = err_from_is_err_and c.from_residual.result c.from_residual.ensures.1 in
    let fault : c.in_err-names.field-0.0 ≡ Damaged block = cc (p.1, p.2) in
    let within : c.loop-i.i < c.args.tree.now.size / 4096 = omega (arith, c.block_count-i-end.ensures.value) in
    damaged_here _ c.args.tree.now c.loop-i.i _ _ _ _ c.loop-i.invariant.reading (λ (names : List Link). names ≡ []) told block within (c.loop-i.invariant.none told) (c.in_err-names.ensures.damaged told block (ap (λ f. Err f) fault))

pub returns-then-names-gt0-clause-none : goal.returns-then-names-gt0-clause-none
returns-then-names-gt0-clause-none g c told =
    let s = store_of (reads (g.D.Device.disk (device_of c.args.blocks.now))) in
    let here : c.in_ok-names.names ≡ length (names_in (data_block s c.args.tree.now c.loop-i.i)) =
    at_start _ c.args.tree.now c.loop-i.i _ _ _ _ c.loop-i.invariant.reading (λ (n : ℕ) (r : Store). c.in_ok-names.names ≡ length (names_in (data_block r c.args.tree.now c.loop-i.i))) told (c.in_ok-names.ensures.count told) in
    let le : c.loop-i.i + 1 ≤ c.args.tree.now.size / 4096 = omega (arith, c.block_count-i-end.ensures.value) in
    sym (not_zero _ (some_later s c.args.tree.now c.loop-i.i (c.args.tree.now.size / 4096) le (omega (arith, here, c.if-names-gt0.true))))

pub returns-then-names-gt0-clause-whole : goal.returns-then-names-gt0-clause-whole
returns-then-names-gt0-clause-whole g c told =
    let s = store_of (reads (g.D.Device.disk (device_of c.args.blocks.now))) in
    let here : c.in_ok-names.names ≡ length (names_in (data_block s c.args.tree.now c.loop-i.i)) =
    at_start _ c.args.tree.now c.loop-i.i _ _ _ _ c.loop-i.invariant.reading (λ (n : ℕ) (r : Store). c.in_ok-names.names ≡ length (names_in (data_block r c.args.tree.now c.loop-i.i))) told (c.in_ok-names.ensures.count told) in
    let some : 0 < length (names_in (data_block s c.args.tree.now c.loop-i.i)) = omega (arith, here, c.if-names-gt0.true) in
    enough_read _ c.args.tree.now c.loop-i.i _ _ _ _ c.loop-i.invariant.reading (λ (names : List Link). names ≡ []) told (c.in_ok-names.ensures.read told)
    (λ k from none. absurd (omega (arith, some_later s c.args.tree.now c.loop-i.i k from some, ap (λ (names : List Link). length names) none)))

pub returns-clause-none : goal.returns-clause-none
returns-clause-none g c told =
    let all : c.loop-i.i ≡ c.args.tree.now.size / 4096 = omega (arith, c.block_count-i-end.ensures.value) in
    let none = ap (λ (n : ℕ). names_before (store_of (reads (g.D.Device.disk (device_of c.args.blocks.now)))) c.args.tree.now n) (sym all) ∙ c.loop-i.invariant.none told in
    sym (ap (λ (names : List Link). length names == 0) none)

pub returns-clause-whole : goal.returns-clause-whole
returns-clause-whole g c told = all_read _ c.args.tree.now c.loop-i.i _ _ _ _ c.loop-i.invariant.reading (λ (names : List Link). names ≡ []) told (omega (arith, c.block_count-i-end.ensures.value))
