use Rattle.std.proofs.Common.{◌≡◌, ℕ, ◌+◌, ◌/◌, ◌<◌, ◌≤◌, true, List, Option, None, Err, refl, sym, ap, ◌∙◌, arith}
use Rattle.std.specs.Prelude.{is_some}
use Rattle.std.proofs.lemmas.Result.{err_from_is_err_and}
use Rattle.sn_device.specs.Disk.{reads}
use Rattle.sn_block.specs.Lending.{device_of}
use Rattle.sn_layout_node.specs.Directory.{Link, number_of}
use Rattle.sn_ondisk.specs.Trees.{Store, store_of, data_block}
use Rattle.sn_image.specs.Names.{names_in}
use Rattle.sn_tree_read.specs.declared.fault.TreeFault.TheVariants.{Damaged}
use Rattle.sn_dir.specs.Blocks.{names_before}
use Rattle.sn_dir.proofs.NameLemmas.{none_of, not_none, number_more, number_later}
use Rattle.sn_dir.proofs.ReadingLemmas.{at_start, reading_more, damaged_here, all_read, enough_read}
use Rattle.sn_dir.proofs.SeenLemmas.{passed}
use Rattle.sn_dir.proofs.lookups.lookup.Goals as goal

pub loop-i-init : goal.loop-i-init
loop-i-init g c = record {
  within = omega (arith, c.block_count-count.ensures.value, c.next_block-i.ensures.end (omega arith));
  looking = passed _ c.args.tree.now c.args.name.now _ _ _ _ 0 c.next_block-i.result (omega arith)
      (record { reading = record { status = c.in_ok-begin_index.ensures.counts.done; same = c.begin_index.ensures.same; read = λ told j under. absurd (omega (arith, under)) }; none = λ told. refl })
      (λ told j from until. c.next_block-i.ensures.passed told j from until);
}

pub loop-i-preserved : goal.loop-i-preserved
loop-i-preserved g c =
    let further = c.next_block-i-in-loop-i.ensures in
    let looking = c.loop-i.invariant.looking in
    let next = reading_more _ c.args.tree.now c.loop-i.i _ _ _ _ looking.reading _ _ c.in_ok-found.ensures.counts.done c.find_in.ensures.same c.in_ok-found.ensures.read in
    let s = store_of (reads (g.D.Device.disk (device_of c.args.blocks.now))) in
    record {
      within = omega (arith, c.block_count-count.ensures.value, further.end (omega (arith, c.block_count-count.ensures.value, c.loop-i-test.true)));
      looking = passed _ c.args.tree.now c.args.name.now _ _ _ _ (c.loop-i.i + 1) c.next_block-i-in-loop-i.result further.after
          (record {
            reading = next;
            none = λ told.
                let here : c.in_ok-found.found ≡ number_of c.args.name.now (names_in (data_block s c.args.tree.now c.loop-i.i)) =
                at_start _ c.args.tree.now c.loop-i.i _ _ _ _ looking.reading (λ (n : ℕ) (r : Store). c.in_ok-found.found ≡ number_of c.args.name.now (names_in (data_block r c.args.tree.now c.loop-i.i))) told (c.in_ok-found.ensures.number told) in
                number_more s c.args.tree.now c.loop-i.i c.args.name.now (looking.none told) ∙ sym here ∙ none_of c.in_ok-found.found (sym c.is_some.ensures ∙ c.if-is_some.false);
          })
          (λ told j from until. further.passed told j from until);
    }

pub returns-in_err-begin_index-clause-damaged : goal.returns-in_err-begin_index-clause-damaged
returns-in_err-begin_index-clause-damaged g c told block is =
    let p = err_from_is_err_and c.from_residual.result c.from_residual.ensures.1 in
    let fault : c.in_err-begin_index.field-0.0 ≡ Damaged block = cc (p.1, p.2) in
    let failed = c.in_err-begin_index.ensures.failed in
    absurd cc

pub returns-in_err-found-clause-damaged : goal.returns-in_err-found-clause-damaged
returns-in_err-found-clause-damaged g c told block is =
    let p = err_from_is_err_and c.from_residual-in_err-found.result c.from_residual-in_err-found.ensures.1 in
    let fault : c.in_err-found.field-0.0 ≡ Damaged block = cc (p.1, p.2) in
    let within : c.loop-i.i < c.args.tree.now.size / 4096 = omega (arith, c.block_count-count.ensures.value, c.loop-i-test.true) in
    damaged_here _ c.args.tree.now c.loop-i.i _ _ _ _ c.loop-i.invariant.looking.reading (λ (names : List Link). number_of c.args.name.now names ≡ None) told block within (c.loop-i.invariant.looking.none told) (c.in_err-found.ensures.damaged told block (ap (λ f. Err f) fault))

pub returns-then-is_some-clause-number : goal.returns-then-is_some-clause-number
returns-then-is_some-clause-number g c told =
    let s = store_of (reads (g.D.Device.disk (device_of c.args.blocks.now))) in
    let here : c.in_ok-found.found ≡ number_of c.args.name.now (names_in (data_block s c.args.tree.now c.loop-i.i)) =
    at_start _ c.args.tree.now c.loop-i.i _ _ _ _ c.loop-i.invariant.looking.reading (λ (n : ℕ) (r : Store). c.in_ok-found.found ≡ number_of c.args.name.now (names_in (data_block r c.args.tree.now c.loop-i.i))) told (c.in_ok-found.ensures.number told) in
    let some : is_some (number_of c.args.name.now (names_in (data_block s c.args.tree.now c.loop-i.i))) ≡ true = ap (λ (o : Option ℕ). is_some o) (sym here) ∙ sym c.is_some.ensures ∙ c.if-is_some.true in
    let le : c.loop-i.i + 1 ≤ c.args.tree.now.size / 4096 = omega (arith, c.block_count-count.ensures.value, c.loop-i-test.true) in
    here ∙ sym (number_later s c.args.tree.now c.loop-i.i c.args.name.now (c.loop-i.invariant.looking.none told) (c.args.tree.now.size / 4096) le some)

pub returns-then-is_some-clause-whole : goal.returns-then-is_some-clause-whole
returns-then-is_some-clause-whole g c told =
    let s = store_of (reads (g.D.Device.disk (device_of c.args.blocks.now))) in
    let here : c.in_ok-found.found ≡ number_of c.args.name.now (names_in (data_block s c.args.tree.now c.loop-i.i)) =
    at_start _ c.args.tree.now c.loop-i.i _ _ _ _ c.loop-i.invariant.looking.reading (λ (n : ℕ) (r : Store). c.in_ok-found.found ≡ number_of c.args.name.now (names_in (data_block r c.args.tree.now c.loop-i.i))) told (c.in_ok-found.ensures.number told) in
    let some : is_some (number_of c.args.name.now (names_in (data_block s c.args.tree.now c.loop-i.i))) ≡ true = ap (λ (o : Option ℕ). is_some o) (sym here) ∙ sym c.is_some.ensures ∙ c.if-is_some.true in
    enough_read _ c.args.tree.now c.loop-i.i _ _ _ _ c.loop-i.invariant.looking.reading (λ (names : List Link). number_of c.args.name.now names ≡ None) told (c.in_ok-found.ensures.read told)
    (λ k from none. not_none _ some (sym (number_later s c.args.tree.now c.loop-i.i c.args.name.now (c.loop-i.invariant.looking.none told) k from some) ∙ none))

pub returns-clause-number : goal.returns-clause-number
returns-clause-number g c told =
    let all : c.loop-i.i ≡ c.args.tree.now.size / 4096 = omega (arith, c.block_count-count.ensures.value, c.loop-i-test.false, c.loop-i.invariant.within) in
    sym (ap (λ (n : ℕ). number_of c.args.name.now (names_before (store_of (reads (g.D.Device.disk (device_of c.args.blocks.now)))) c.args.tree.now n)) (sym all) ∙ c.loop-i.invariant.looking.none told)

pub returns-clause-whole : goal.returns-clause-whole
returns-clause-whole g c told = all_read _ c.args.tree.now c.loop-i.i _ _ _ _ c.loop-i.invariant.looking.reading (λ (names : List Link). number_of c.args.name.now names ≡ None) told (omega (arith, c.block_count-count.ensures.value, c.loop-i-test.false, c.loop-i.invariant.within))
