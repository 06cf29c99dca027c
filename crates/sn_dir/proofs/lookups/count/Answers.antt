use Rattle.std.proofs.Common.{◌≡◌, ℕ, ◌/◌, ◌<◌, List, Err, length, refl, ap, ◌∙◌, arith}
use Rattle.std.specs.Prelude.{⊤}
use Rattle.std.proofs.lemmas.Result.{err_from_is_err_and}
use Rattle.sn_device.specs.Disk.{reads}
use Rattle.sn_block.specs.Lending.{device_of}
use Rattle.sn_layout_node.specs.Directory.{Link}
use Rattle.sn_ondisk.specs.Trees.{Store, store_of, data_block}
use Rattle.sn_image.specs.Names.{names_in}
use Rattle.sn_tree_read.specs.declared.fault.TreeFault.TheVariants.{Damaged}
use Rattle.sn_dir.specs.Blocks.{names_before}
use Rattle.sn_dir.proofs.NameLemmas.{count_more}
use Rattle.sn_dir.proofs.ReadingLemmas.{reading_begun, at_start, reading_more, damaged_here, all_read}
use Rattle.sn_dir.proofs.lookups.count.Goals as goal

pub loop-i-init : goal.loop-i-init
loop-i-init g c = record { reading = reading_begun _ _ _ _; few = omega arith; counted = λ told. refl }

pub loop-i-preserved : goal.loop-i-preserved
loop-i-preserved g c = record {
  reading = reading_more _ c.args.tree.now c.loop-i.i _ _ _ _ c.loop-i.invariant.reading _ _ c.in_ok-names.ensures.counts.done c.count_in.ensures.same c.in_ok-names.ensures.read;
  few = omega (arith, c.loop-i.invariant.few, c.in_ok-names.ensures.few);
  counted = λ told.
      let s = store_of (reads (g.D.Device.disk (device_of c.args.blocks.now))) in
      let here : c.in_ok-names.names ≡ length (names_in (data_block s c.args.tree.now c.loop-i.i)) =
      at_start _ c.args.tree.now c.loop-i.i _ _ _ _ c.loop-i.invariant.reading (λ (n : ℕ) (r : Store). c.in_ok-names.names ≡ length (names_in (data_block r c.args.tree.now c.loop-i.i))) told (c.in_ok-names.ensures.count told) in
      count_more s c.args.tree.now c.loop-i.i c.loop-i.count (c.loop-i.invariant.counted told) c.in_ok-names.names here;
}

pub overflow_add-count : goal.overflow_add-count
overflow_add-count g c = omega (arith, c.loop-i.invariant.few, c.in_ok-names.ensures.few, c.block_count-i-end.ensures.most)

pub returns-in_err-names-clause-damaged : goal.returns-in_err-names-clause-damaged
returns-in_err-names-clause-damaged g c told block is =
    let p = err_from_is_err_and c.from_residual.result c.from_residual.ensures.1 in
    let fault : c.in_err-names.field-0.0 ≡ Damaged block = cc (p.1, p.2) in
    let within : c.loop-i.i < c.args.tree.now.size / 4096 = omega (arith, c.block_count-i-end.ensures.value) in
    damaged_here _ c.args.tree.now c.loop-i.i _ _ _ _ c.loop-i.invariant.reading (λ (names : List Link). ⊤) told block within tt (c.in_err-names.ensures.damaged told block (ap (λ f. Err f) fault))

pub returns-clause-count : goal.returns-clause-count
returns-clause-count g c told =
    let all : c.loop-i.i ≡ c.args.tree.now.size / 4096 = omega (arith, c.block_count-i-end.ensures.value) in
    c.loop-i.invariant.counted told ∙ ap (λ (n : ℕ). length (names_before (store_of (reads (g.D.Device.disk (device_of c.args.blocks.now)))) c.args.tree.now n)) all

pub returns-clause-whole : goal.returns-clause-whole
returns-clause-whole g c told = all_read _ c.args.tree.now c.loop-i.i _ _ _ _ c.loop-i.invariant.reading (λ (names : List Link). ⊤) told (omega (arith, c.block_count-i-end.ensures.value))
