use Rattle.std.proofs.Common.{◌≡◌, ◌+◌, ◌/◌, ◌%◌, ◌++◌, length, true, false, take, drop, Err, refl, sym, subst, ap, ◌∙◌, arith, length-append}
use Rattle.std.proofs.lemmas.Result.{err_from_is_err_and}
use Rattle.sn_device.specs.Disk.{Disk, reads}
use Rattle.sn_device.specs.declared.status.Status.{Status}
use Rattle.sn_block.specs.Lending.{device_of}
use Rattle.sn_ondisk.specs.Trees.{Store, store_of, data_block}
use Rattle.sn_tree_read.specs.Paths.{block_lies_on, block_met}
use Rattle.sn_tree_read.specs.declared.fault.TreeFault.TheVariants.{Damaged}
use Rattle.sn_tree_read.proofs.ReadLemmas.{IsReadTo, read_more}
use Rattle.sn_tree_read.proofs.reads.read_tree.Goals as goal

pub loop-bytes-preserved : goal.loop-bytes-preserved
loop-bytes-preserved g c =
    let at = c.args.offset + c.len-in-loop-bytes.result in
    let step = c.count_within-step.result in
    let before = c.loop-bytes.bytes.items in
    let status = g.D.Device.status (device_of c.args.blocks.now) in
    let s = store_of (reads (g.D.Device.disk (device_of c.args.blocks.now))) in (
      omega (arith, c.in_ok-push_part.ensures.longer, c.count_within-step.ensures.most),
      c.in_ok-push_part.ensures.counts.done ∙ c.loop-bytes.invariant.1,
      λ told. c.push_part.ensures.same told ∙ c.loop-bytes.invariant.2 told,
      λ told.
          let same : store_of (reads (g.D.Device.disk (device_of c.loop-bytes.blocks))) ≡ s = ap (λ (d : Disk). store_of (reads d)) (c.loop-bytes.invariant.2 told) in
          let items : c.push_part.new.bytes.items ≡ before ++ take step (drop (at % 4096) (data_block s c.args.tree.now (at / 4096))) =
          c.in_ok-push_part.ensures.bytes told ∙ ap (λ (r : Store). before ++ take step (drop (at % 4096) (data_block r c.args.tree.now (at / 4096)))) same in
          let lies : block_lies_on status.sectors s c.args.tree.now (at / 4096) ≡ true =
          sym (ap (λ (t : Status). block_lies_on t.sectors (store_of (reads (g.D.Device.disk (device_of c.loop-bytes.blocks)))) c.args.tree.now (at / 4096)) c.loop-bytes.invariant.1
          ∙ ap (λ (r : Store). block_lies_on status.sectors r c.args.tree.now (at / 4096)) same) ∙ c.in_ok-push_part.ensures.lies told in
          let long : length (take step (drop (at % 4096) (data_block s c.args.tree.now (at / 4096)))) ≡ step =
          omega (arith, ap length items, length-append before (take step (drop (at % 4096) (data_block s c.args.tree.now (at / 4096)))), c.in_ok-push_part.ensures.longer, c.push_part.new.bytes.ok, c.loop-bytes.bytes.ok) in
          let so_far : at ≡ c.args.offset + length before = omega (arith, c.len-in-loop-bytes.ensures, c.loop-bytes.bytes.ok) in
          subst (IsReadTo status.sectors s c.args.tree.now c.args.offset) (sym items)
          (read_more status.sectors s c.args.tree.now c.args.offset at step before (data_block s c.args.tree.now (at / 4096)) so_far c.count_within-step.ensures.within long refl (c.loop-bytes.invariant.3 told) lies),
    )

pub returns-in_err-push_part-clause-damaged : goal.returns-in_err-push_part-clause-damaged
returns-in_err-push_part-clause-damaged g c told block is =
    let at = c.args.offset + c.len-in-loop-bytes.result in
    let status = g.D.Device.status (device_of c.args.blocks.now) in
    let s = store_of (reads (g.D.Device.disk (device_of c.args.blocks.now))) in
    let p = err_from_is_err_and c.from_residual-in_err-push_part.result c.from_residual-in_err-push_part.ensures.1 in
    let fault : c.in_err-push_part.field-0.0 ≡ Damaged block = cc (p.1, p.2) in
    let met = c.in_err-push_part.ensures.damaged told block (ap (λ f. Err f) fault) in
    let same : store_of (reads (g.D.Device.disk (device_of c.loop-bytes.blocks))) ≡ s = ap (λ (d : Disk). store_of (reads d)) (c.loop-bytes.invariant.2 told) in
    let outside : block_lies_on status.sectors s c.args.tree.now (at / 4096) ≡ false =
    sym (ap (λ (t : Status). block_lies_on t.sectors (store_of (reads (g.D.Device.disk (device_of c.loop-bytes.blocks)))) c.args.tree.now (at / 4096)) c.loop-bytes.invariant.1
    ∙ ap (λ (r : Store). block_lies_on status.sectors r c.args.tree.now (at / 4096)) same) ∙ met.0 in
    let told_of : block ≡ block_met status.sectors s c.args.tree.now (at / 4096) =
    met.1
    ∙ ap (λ (t : Status). block_met t.sectors (store_of (reads (g.D.Device.disk (device_of c.loop-bytes.blocks)))) c.args.tree.now (at / 4096)) c.loop-bytes.invariant.1
    ∙ ap (λ (r : Store). block_met status.sectors r c.args.tree.now (at / 4096)) same in
    (c.len-in-loop-bytes.result, omega (arith, c.count_from-count.ensures, c.loop-bytes-test.true), omega (arith, c.count_from-count.ensures, c.loop-bytes-test.true), outside, told_of)
