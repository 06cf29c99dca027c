use Rattle.std.proofs.Common.{◌≡◌, ℕ, ◌-◌, ◌/◌, ◌%◌, Err, false, sym, ◌∙◌, ap, slice_index}
use Rattle.std.proofs.lemmas.Result.{err_from_is_err_and, IfOk-weaker, on_ok_weaker}
use Rattle.sn_device.specs.Disk.{Disk, reads}
use Rattle.sn_block.specs.Lending.{device_of}
use Rattle.sn_ondisk.specs.Trees.{store_of, below, entry}
use Rattle.sn_tree_read.specs.Paths.{lies_on, path_lies_on, block_named}
use Rattle.sn_tree_read.specs.declared.fault.TreeFault.TheVariants.{Damaged}
use Rattle.sn_tree_read.proofs.PointerLemmas.{entry_down, path_down, entry_first, path_first, both_lie, first_not, second_not, met_last, met_above}
use Rattle.sn_tree_read.proofs.entries.+entry.Goals as goal

pub returns-then-level-eq0-clause-pointer : goal.returns-then-level-eq0-clause-pointer
returns-then-level-eq0-clause-pointer g t c told = c.first_pointer.ensures ∙ entry_first _ c.args.level c.args.tree.now.pointers c.args.i c.if-level-eq0.true

pub returns-then-level-eq0-clause-lies : goal.returns-then-level-eq0-clause-lies
returns-then-level-eq0-clause-lies g t c told = path_first _ _ c.args.level c.args.tree.now.pointers c.args.i c.if-level-eq0.true

pub returns-in_err-above-clause-damaged : goal.returns-in_err-above-clause-damaged
returns-in_err-above-clause-damaged g t c told block is =
    let sectors = (g.D.Device.status (device_of c.args.blocks.now)).sectors in
    let s = store_of (reads (g.D.Device.disk (device_of c.args.blocks.now))) in
    let p = err_from_is_err_and c.from_residual.result c.from_residual.ensures.1 in
    let same : c.in_err-above.field-0.0 ≡ Damaged block = cc (p.1, p.2) in
    let above = c.in_err-above.ensures.damaged told block (ap (λ fault. Err fault) same) in
    let off : path_lies_on sectors s c.args.level c.args.tree.now.pointers c.args.i ≡ false =
    path_down sectors s c.args.level c.args.tree.now.pointers c.args.i c.if-level-eq0.false
    ∙ first_not _ (lies_on sectors (entry s (c.args.level - 1) c.args.tree.now.pointers (c.args.i / 1024))) above.0 in
    (off, above.1 ∙ ap block_named (met_above sectors s c.args.level c.args.tree.now.pointers c.args.i c.if-level-eq0.false off))

pub returns-clause-pointer : goal.returns-clause-pointer
returns-clause-pointer g t c told =
    let s = store_of (reads (g.D.Device.disk (device_of c.args.blocks.now))) in
    let same : g.D.Device.disk (device_of c.entry.new.blocks) ≡ g.D.Device.disk (device_of c.args.blocks.now) = c.entry.ensures.same told in
    let is : slice_index (below (store_of (reads (g.D.Device.disk (device_of c.entry.new.blocks)))) c.in_ok-above.above) (c.args.i % 1024) ≡ entry s c.args.level c.args.tree.now.pointers c.args.i =
    ap (λ (d : Disk). slice_index (below (store_of (reads d)) c.in_ok-above.above) (c.args.i % 1024)) same
    ∙ ap (λ (p : ℕ). slice_index (below s p) (c.args.i % 1024)) (c.in_ok-above.ensures.pointer told)
    ∙ sym (entry_down s c.args.level c.args.tree.now.pointers c.args.i c.if-level-eq0.false) in
    IfOk-weaker c.pointer_below.result _ _ (λ p e. e ∙ is) (c.pointer_below.ensures.pointer told)

pub returns-clause-lies : goal.returns-clause-lies
returns-clause-lies g t c told =
    let sectors = (g.D.Device.status (device_of c.args.blocks.now)).sectors in
    let s = store_of (reads (g.D.Device.disk (device_of c.args.blocks.now))) in
    let same : lies_on (g.D.Device.status (device_of c.entry.new.blocks)).sectors c.in_ok-above.above ≡ lies_on sectors (entry s (c.args.level - 1) c.args.tree.now.pointers (c.args.i / 1024)) =
    ap (λ (n : ℕ). lies_on n c.in_ok-above.above) c.entry.ensures.counts.sectors ∙ ap (lies_on sectors) (c.in_ok-above.ensures.pointer told) in
    on_ok_weaker c.pointer_below.result
    (λ lies. path_down sectors s c.args.level c.args.tree.now.pointers c.args.i c.if-level-eq0.false ∙ both_lie _ _ (c.in_ok-above.ensures.lies told) (sym same ∙ lies))
    c.pointer_below.ensures.lies

pub returns-clause-damaged : goal.returns-clause-damaged
returns-clause-damaged g t c told block is =
    let sectors = (g.D.Device.status (device_of c.args.blocks.now)).sectors in
    let s = store_of (reads (g.D.Device.disk (device_of c.args.blocks.now))) in
    let same : lies_on (g.D.Device.status (device_of c.entry.new.blocks)).sectors c.in_ok-above.above ≡ lies_on sectors (entry s (c.args.level - 1) c.args.tree.now.pointers (c.args.i / 1024)) =
    ap (λ (n : ℕ). lies_on n c.in_ok-above.above) c.entry.ensures.counts.sectors ∙ ap (lies_on sectors) (c.in_ok-above.ensures.pointer told) in
    let below = c.pointer_below.ensures.damaged block is in
    let off : path_lies_on sectors s c.args.level c.args.tree.now.pointers c.args.i ≡ false =
    path_down sectors s c.args.level c.args.tree.now.pointers c.args.i c.if-level-eq0.false
    ∙ second_not _ _ (c.in_ok-above.ensures.lies told) (sym same ∙ below.0) in (
      off,
      below.1 ∙ ap block_named (
          c.in_ok-above.ensures.pointer told
          ∙ sym (met_last sectors s (c.args.level - 1) c.args.tree.now.pointers (c.args.i / 1024) (c.in_ok-above.ensures.lies told))
          ∙ met_above sectors s c.args.level c.args.tree.now.pointers c.args.i c.if-level-eq0.false off),
    )
