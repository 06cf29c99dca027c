use Rattle.std.proofs.Common.{◌≡◌, ℕ, Option, Err, IfSome, true, false, sym, subst, ◌∙◌, ap}
use Rattle.std.proofs.lemmas.Result.{err_from_is_err_and}
use Rattle.sn_device.specs.Disk.{Disk, reads}
use Rattle.sn_block.specs.Lending.{device_of}
use Rattle.sn_ondisk.specs.Blocks.{block_at}
use Rattle.sn_layout.specs.Pointers.{levels_of}
use Rattle.sn_ondisk.specs.Trees.{store_of, entry, data_block}
use Rattle.sn_tree_read.specs.Paths.{lies_on, path_lies_on, block_named, pointer_met}
use Rattle.sn_tree_read.specs.declared.fault.TreeFault.TheVariants.{Damaged}
use Rattle.sn_tree_read.proofs.PointerLemmas.{data_hole, data_there, first_not, second_not, met_last, names_one}
use Rattle.sn_tree_read.proofs.entries.fetch_data.Goals as goal

pub returns-then-pointer-eq0-clause-hole : goal.returns-then-pointer-eq0-clause-hole
returns-then-pointer-eq0-clause-hole g c told hole =
    data_hole (store_of (reads (g.D.Device.disk (device_of c.args.blocks.now)))) c.args.tree.now c.args.i c.levels_of.result c.in_ok-pointer.pointer c.levels_of.ensures.value (c.in_ok-pointer.ensures.pointer told) c.if-pointer-eq0.true

pub returns-in_err-pointer-clause-damaged : goal.returns-in_err-pointer-clause-damaged
returns-in_err-pointer-clause-damaged g c told block is =
    let sectors = (g.D.Device.status (device_of c.args.blocks.now)).sectors in
    let s = store_of (reads (g.D.Device.disk (device_of c.args.blocks.now))) in
    let p = err_from_is_err_and c.from_residual.result c.from_residual.ensures.1 in
    let fault : c.in_err-pointer.field-0.0 ≡ Damaged block = cc (p.1, p.2) in
    let met = c.in_err-pointer.ensures.damaged told block (ap (λ f. Err f) fault) in (
      first_not _ _ (ap (λ (n : ℕ). path_lies_on sectors s n c.args.tree.now.pointers c.args.i) (sym c.levels_of.ensures.value) ∙ met.0),
      met.1 ∙ ap (λ (n : ℕ). block_named (pointer_met sectors s n c.args.tree.now.pointers c.args.i)) c.levels_of.ensures.value,
    )

pub returns-then-not-lies_on-clause-damaged : goal.returns-then-not-lies_on-clause-damaged
returns-then-not-lies_on-clause-damaged g c told block is =
    let sectors = (g.D.Device.status (device_of c.args.blocks.now)).sectors in
    let s = store_of (reads (g.D.Device.disk (device_of c.args.blocks.now))) in
    let levels = levels_of c.args.tree.now.size in
    let last : c.in_ok-pointer.pointer ≡ entry s levels c.args.tree.now.pointers c.args.i =
    c.in_ok-pointer.ensures.pointer told ∙ ap (λ (n : ℕ). entry s n c.args.tree.now.pointers c.args.i) c.levels_of.ensures.value in
    let path : path_lies_on sectors s levels c.args.tree.now.pointers c.args.i ≡ true =
    ap (λ (n : ℕ). path_lies_on sectors s n c.args.tree.now.pointers c.args.i) (sym c.levels_of.ensures.value) ∙ c.in_ok-pointer.ensures.lies told in
    let off : lies_on sectors c.in_ok-pointer.pointer ≡ false = ap (λ (n : ℕ). lies_on n c.in_ok-pointer.pointer) (sym (c.sectors.ensures ∙ c.entry.ensures.counts.sectors)) ∙ sym c.lies_on.ensures ∙ c.if-not-lies_on.true in
    let met : block ≡ block_named c.in_ok-pointer.pointer = cc (is, c.at.ensures) in (
      second_not _ _ path (ap (lies_on sectors) (sym last) ∙ off),
      met ∙ ap block_named (last ∙ sym (met_last sectors s levels c.args.tree.now.pointers c.args.i path)),
    )

pub returns-clause-number : goal.returns-clause-number
returns-clause-number g c told there =
    let sectors = (g.D.Device.status (device_of c.args.blocks.now)).sectors in
    let s = store_of (reads (g.D.Device.disk (device_of c.args.blocks.now))) in
    sym (names_one c.in_ok-pointer.pointer c.if-pointer-eq0.false)
    ∙ ap block_named (c.in_ok-pointer.ensures.pointer told ∙ sym (met_last sectors s c.levels_of.result c.args.tree.now.pointers c.args.i (c.in_ok-pointer.ensures.lies told)))
    ∙ ap (λ (n : ℕ). block_named (pointer_met sectors s n c.args.tree.now.pointers c.args.i)) c.levels_of.ensures.value

pub returns-clause-block : goal.returns-clause-block
returns-clause-block g c told there =
    let s = store_of (reads (g.D.Device.disk (device_of c.args.blocks.now))) in
    let same : g.D.Device.disk (device_of c.fetch.new.self) ≡ g.D.Device.disk (device_of c.args.blocks.now) = c.fetch.ensures.same told ∙ c.entry.ensures.same told in
    let read = data_there s c.args.tree.now c.args.i c.levels_of.result c.in_ok-pointer.pointer c.levels_of.ensures.value (c.in_ok-pointer.ensures.pointer told) c.if-pointer-eq0.false in
    subst (λ (o : Option ℕ). IfSome o (λ number. block_at (reads (g.D.Device.disk (device_of c.fetch.new.self))) number ≡ data_block s c.args.tree.now c.args.i))
    (sym c.in_ok-fetch.ensures.lent)
    (ap (λ (d : Disk). block_at (reads d) c.in_ok-pointer.pointer) same ∙ read)
