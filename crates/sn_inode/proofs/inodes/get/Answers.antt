use Rattle.std.proofs.Common.{◌≡◌, ℕ, ◌/◌, Err, IsTrue, sym, ap, ◌∙◌}
use Rattle.std.proofs.lemmas.Result.{err_from_is_err_and}
use Rattle.sn_device.specs.Disk.{reads}
use Rattle.sn_block.specs.Lending.{device_of, fetched_number}
use Rattle.sn_ondisk.specs.Trees.{store_of, data_block}
use Rattle.sn_tree_read.specs.Paths.{block_met}
use Rattle.sn_tree_read.specs.declared.fault.TreeFault.TheVariants.{Damaged}
use Rattle.sn_inode.proofs.LentLemmas.{lent_is}
use Rattle.sn_inode.proofs.RecordLemmas.{no_number, hole_inode, not_needed, hole_read, off_not_read, decoded_inode, decoded_read, decoded_damaged}
use Rattle.sn_inode.proofs.inodes.get.Given.{Over}
use Rattle.sn_inode.proofs.inodes.get.Goals as goal

pub returns-then-not-is_number-clause-inode : goal.returns-then-not-is_number-clause-inode
returns-then-not-is_number-clause-inode g c told =
    no_number (store_of (reads (g.D.Device.disk (device_of c.args.blocks.now)))) c.args.file.now c.args.number (sym c.is_number.ensures ∙ c.if-not-is_number.true)

pub returns-then-not-is_number-clause-read : goal.returns-then-not-is_number-clause-read
returns-then-not-is_number-clause-read g c told =
    not_needed (store_of (reads (g.D.Device.disk (device_of c.args.blocks.now)))) c.args.file.now c.args.number _ _ (sym c.is_number.ensures ∙ c.if-not-is_number.true)

pub returns-in_err-found-clause-damaged : goal.returns-in_err-found-clause-damaged
returns-in_err-found-clause-damaged g c told block is =
    let sectors = (g.D.Device.status (device_of c.args.blocks.now)).sectors in
    let s = store_of (reads (g.D.Device.disk (device_of c.args.blocks.now))) in
    let p = err_from_is_err_and c.from_residual.result c.from_residual.ensures.1 in
    let fault : c.in_err-found.field-0.0 ≡ Damaged block = cc (p.1, p.2) in
    let met = c.in_err-found.ensures.damaged told block (ap (λ f. Err f) fault) in (
      off_not_read s c.args.file.now c.args.number c.from-index.result c.from-index.ensures _ _ (sym c.is_number.ensures ∙ c.if-not-is_number.false) met.0,
      met.1 ∙ ap (λ (n : ℕ). block_met sectors s c.args.file.now (n / 32)) c.from-index.ensures,
    )

-- what is lent is the block of the record
lent : (g : Over) (c : goal.After-decoded g) → IsTrue g.D.Device.tells_bytes → c.fetched.result.now ≡ data_block (store_of (reads (g.D.Device.disk (device_of c.args.blocks.now)))) c.args.file.now (c.from-index.result / 32)
lent g c told =
    let there = sym c.is_some.ensures ∙ c.if-is_some.true in
    lent_is (fetched_number c.fetch_data.new.blocks) _ c.fetched.result.now _ (c.in_ok-found.ensures.lent there) (c.fetched.ensures.bytes told) (c.in_ok-found.ensures.block told there)

pub returns-then-is_some-clause-inode : goal.returns-then-is_some-clause-inode
returns-then-is_some-clause-inode g c told =
    let s = store_of (reads (g.D.Device.disk (device_of c.args.blocks.now))) in
    decoded_inode s c.args.file.now c.args.number c.from-index.result c.from-index.ensures c.args.limits.now 0 c.fetched.result.now (lent g c told) (sym c.is_number.ensures ∙ c.if-not-is_number.false) c.decoded.result c.decoded.ensures.inode

pub returns-then-is_some-clause-read : goal.returns-then-is_some-clause-read
returns-then-is_some-clause-read g c told =
    let s = store_of (reads (g.D.Device.disk (device_of c.args.blocks.now))) in
    decoded_read s c.args.file.now c.args.number c.from-index.result c.from-index.ensures c.args.limits.now _ c.fetched.result.now (lent g c told) (sym c.is_number.ensures ∙ c.if-not-is_number.false) c.decoded.result (c.in_ok-found.ensures.lies told) c.decoded.ensures.spelled

pub returns-then-is_some-clause-damaged : goal.returns-then-is_some-clause-damaged
returns-then-is_some-clause-damaged g c told block is =
    let sectors = (g.D.Device.status (device_of c.args.blocks.now)).sectors in
    let s = store_of (reads (g.D.Device.disk (device_of c.args.blocks.now))) in
    let wrong = decoded_damaged s c.args.file.now c.args.number c.from-index.result c.from-index.ensures c.args.limits.now _ c.fetched.result.now (lent g c told) (sym c.is_number.ensures ∙ c.if-not-is_number.false) c.in_ok-found.found c.decoded.result c.decoded.ensures.damaged block is in (
      wrong.0,
      wrong.1 ∙ c.in_ok-found.ensures.number told (sym c.is_some.ensures ∙ c.if-is_some.true) ∙ ap (λ (n : ℕ). block_met sectors s c.args.file.now (n / 32)) c.from-index.ensures,
    )

pub returns-clause-inode : goal.returns-clause-inode
returns-clause-inode g c told =
    let s = store_of (reads (g.D.Device.disk (device_of c.args.blocks.now))) in
    hole_inode s c.args.file.now c.args.number c.from-index.result c.from-index.ensures (c.in_ok-found.ensures.hole told (sym c.is_some.ensures ∙ c.if-is_some.false))
    (sym c.is_number.ensures ∙ c.if-not-is_number.false)

pub returns-clause-read : goal.returns-clause-read
returns-clause-read g c told =
    hole_read (store_of (reads (g.D.Device.disk (device_of c.args.blocks.now)))) c.args.file.now c.args.number c.from-index.result c.from-index.ensures _ _
    (c.in_ok-found.ensures.lies told) (c.in_ok-found.ensures.hole told (sym c.is_some.ensures ∙ c.if-is_some.false))
