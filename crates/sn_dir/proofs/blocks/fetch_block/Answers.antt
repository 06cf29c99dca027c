use Rattle.std.proofs.Common.{◌≡◌, ℕ, Option, Err, IfSome, true, false, sym, subst, ◌∙◌, ap}
use Rattle.std.proofs.lemmas.Result.{err_from_is_err_and}
use Rattle.sn_device.specs.Disk.{Disk, reads}
use Rattle.sn_block.specs.Lending.{device_of}
use Rattle.sn_ondisk.specs.Blocks.{block_at}
use Rattle.sn_ondisk.specs.Trees.{store_of}
use Rattle.sn_tree_read.specs.Paths.{lies_on, block_named}
use Rattle.sn_tree_read.specs.declared.fault.TreeFault.TheVariants.{Damaged}
use Rattle.sn_tree_read.proofs.PointerLemmas.{data_there}
use Rattle.sn_dir.proofs.BlockLemmas.{path_not_there, hole_not_there, off_not_there, is_there, met_on_path, met_here}
use Rattle.sn_dir.proofs.blocks.fetch_block.Goals as goal

pub returns-in_err-pointer-clause-damaged : goal.returns-in_err-pointer-clause-damaged
returns-in_err-pointer-clause-damaged g c told block is =
    let p = err_from_is_err_and c.from_residual.result c.from_residual.ensures.1 in
    let fault : c.in_err-pointer.field-0.0 ≡ Damaged block = cc (p.1, p.2) in
    let met = c.in_err-pointer.ensures.damaged told block (ap (λ f. Err f) fault) in (
      path_not_there _ _ c.args.tree.now c.args.i c.levels_of.result 0 c.levels_of.ensures.value met.0,
      met.1 ∙ met_on_path _ _ c.args.tree.now c.args.i c.levels_of.result 0 c.levels_of.ensures.value,
    )

pub returns-then-not-lies_on-clause-damaged : goal.returns-then-not-lies_on-clause-damaged
returns-then-not-lies_on-clause-damaged g c told block is =
    let sectors = (g.D.Device.status (device_of c.args.blocks.now)).sectors in
    let off : lies_on sectors c.in_ok-pointer.pointer ≡ false = ap (λ (n : ℕ). lies_on n c.in_ok-pointer.pointer) (sym (c.sectors.ensures ∙ c.entry.ensures.counts.sectors)) ∙ sym c.lies_on.ensures ∙ c.if-not-lies_on.true in
    let met : block ≡ block_named c.in_ok-pointer.pointer = cc (is, c.at.ensures) in (
      off_not_there _ _ c.args.tree.now c.args.i c.levels_of.result c.in_ok-pointer.pointer c.levels_of.ensures.value (c.in_ok-pointer.ensures.pointer told) off,
      met ∙ met_here _ _ c.args.tree.now c.args.i c.levels_of.result c.in_ok-pointer.pointer c.levels_of.ensures.value (c.in_ok-pointer.ensures.pointer told) (c.in_ok-pointer.ensures.lies told),
    )

pub returns-then-pointer-eq0-clause-damaged : goal.returns-then-pointer-eq0-clause-damaged
returns-then-pointer-eq0-clause-damaged g c told block is =
    let met : block ≡ block_named c.in_ok-pointer.pointer = cc (is, c.at-then-pointer-eq0.ensures) in (
      hole_not_there _ _ c.args.tree.now c.args.i c.levels_of.result c.in_ok-pointer.pointer c.levels_of.ensures.value (c.in_ok-pointer.ensures.pointer told) c.if-pointer-eq0.true,
      met ∙ met_here _ _ c.args.tree.now c.args.i c.levels_of.result c.in_ok-pointer.pointer c.levels_of.ensures.value (c.in_ok-pointer.ensures.pointer told) (c.in_ok-pointer.ensures.lies told),
    )

pub returns-clause-number : goal.returns-clause-number
returns-clause-number g c told =
    met_here _ _ c.args.tree.now c.args.i c.levels_of.result c.in_ok-pointer.pointer c.levels_of.ensures.value (c.in_ok-pointer.ensures.pointer told) (c.in_ok-pointer.ensures.lies told)

pub returns-clause-there : goal.returns-clause-there
returns-clause-there g c told =
    let sectors = (g.D.Device.status (device_of c.args.blocks.now)).sectors in
    let lies : lies_on sectors c.in_ok-pointer.pointer ≡ true = ap (λ (n : ℕ). lies_on n c.in_ok-pointer.pointer) (sym (c.sectors.ensures ∙ c.entry.ensures.counts.sectors)) ∙ sym c.lies_on.ensures ∙ c.if-not-lies_on.false in
    is_there _ _ c.args.tree.now c.args.i c.levels_of.result c.in_ok-pointer.pointer c.levels_of.ensures.value (c.in_ok-pointer.ensures.pointer told) (c.in_ok-pointer.ensures.lies told) lies c.if-pointer-eq0.false

pub returns-clause-block : goal.returns-clause-block
returns-clause-block g c told =
    let s = store_of (reads (g.D.Device.disk (device_of c.args.blocks.now))) in
    let same : g.D.Device.disk (device_of c.fetch.new.self) ≡ g.D.Device.disk (device_of c.args.blocks.now) = c.fetch.ensures.same told ∙ c.entry.ensures.same told in
    let read = data_there s c.args.tree.now c.args.i c.levels_of.result c.in_ok-pointer.pointer c.levels_of.ensures.value (c.in_ok-pointer.ensures.pointer told) c.if-pointer-eq0.false in
    let lent = subst (λ (o : Option ℕ). IfSome o (λ number. c.fetched.result.now ≡ block_at (reads (g.D.Device.disk (device_of c.fetch.new.self))) number)) c.in_ok-fetch.ensures.lent (c.fetched.ensures.bytes told) in
    sym c.fetched.ensures.value ∙ lent ∙ ap (λ (d : Disk). block_at (reads d) c.in_ok-pointer.pointer) same ∙ read
