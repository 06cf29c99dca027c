use Rattle.std.proofs.Common.{◌≤◌, ◌≡◌, length, sym, ◌∙◌, subst}
use Rattle.std.proofs.lemmas.Result.{err_from_is_err_and}
use Rattle.sn_device.specs.Disk.{reads}
use Rattle.sn_block.specs.Lending.{device_of}
use Rattle.sn_root.proofs.ReplacingLemmas.{touched_closing, touched_body, touched_opening, KeepsRoot-join, ChangesRoot-kept, ChangesRoot-after, reads_open, reads_body}
use Rattle.sn_root.proofs.replacing.replace.Goals as goal

pub returns-in_err-close_slot-clause-bytes : goal.returns-in_err-close_slot-clause-bytes
returns-in_err-close_slot-clause-bytes g c told =
    let touched = touched_closing c.args.slot c.args.gate _ _ (c.close_slot.ensures.bytes told).touched in
    let p = err_from_is_err_and c.from_residual.result c.from_residual.ensures.1 in
    rw (p.1, p.2) (record { touched = touched; opened = tt; body = tt; synced = tt })

pub returns-in_err-close_slot-clause-root : goal.returns-in_err-close_slot-clause-root
returns-in_err-close_slot-clause-root g c told =
    let keeps = c.close_slot.ensures.root told in
    let p = err_from_is_err_and c.from_residual.result c.from_residual.ensures.1 in
    rw (p.1, p.2) (ChangesRoot-kept c.args.slot c.args.next.now _ _ _ keeps)

pub returns-in_err-write_body-clause-bytes : goal.returns-in_err-write_body-clause-bytes
returns-in_err-write_body-clause-bytes g c told =
    let closed = touched_closing c.args.slot c.args.gate _ _ (c.close_slot.ensures.bytes told).touched in
    let touched = touched_body c.args.slot _ _ _ closed (c.write_body.ensures.bytes told).touched in
    let p = err_from_is_err_and c.from_residual-in_err-write_body.result c.from_residual-in_err-write_body.ensures.1 in
    rw (p.1, p.2) (record { touched = touched; opened = tt; body = tt; synced = tt })

pub returns-in_err-write_body-clause-root : goal.returns-in_err-write_body-clause-root
returns-in_err-write_body-clause-root g c told =
    let keeps = KeepsRoot-join c.args.slot _ _ _ (c.close_slot.ensures.root told) (c.write_body.ensures.root told) in
    let p = err_from_is_err_and c.from_residual-in_err-write_body.result c.from_residual-in_err-write_body.ensures.1 in
    rw (p.1, p.2) (ChangesRoot-kept c.args.slot c.args.next.now _ _ _ keeps)

pub open_slot-requires-clause-body : goal.open_slot-requires-clause-body
open_slot-requires-clause-body g c told = (c.args.next.now, (c.in_ok-write_body.ensures.bytes told).body)

pub returns-clause-bytes : goal.returns-clause-bytes
returns-clause-bytes g c told =
    let device = device_of c.write_body.new.blocks in
    let whole = g.met.D.Device.whole device told in
    let same : (g.D.Device.status device).sectors ≡ (g.D.Device.status (device_of c.args.blocks.now)).sectors = c.write_body.ensures.counts.sectors ∙ c.close_slot.ensures.counts.sectors in
    let room : 32 ≤ length (reads (g.D.Device.disk device)) = subst (λ n. 32 ≤ n) (sym (g.met.D.Device.count device told ∙ same)) c.requires.room in
    let opens = c.open_slot.ensures.bytes told in
    let closed = touched_closing c.args.slot c.args.gate _ _ (c.close_slot.ensures.bytes told).touched in
    let behind = touched_body c.args.slot _ _ _ closed (c.write_body.ensures.bytes told).touched in
    record {
      touched = touched_opening c.args.slot _ _ _ behind opens.touched;
      opened = reads_open c.args.slot c.args.next.now c.open_slot.result _ _ whole room opens;
      body = reads_body c.args.slot c.args.next.now c.open_slot.result _ _ whole room opens (c.in_ok-write_body.ensures.bytes told).body;
      synced = opens.synced;
    }

pub returns-clause-root : goal.returns-clause-root
returns-clause-root g c told =
    let whole = g.met.D.Device.whole (device_of c.args.blocks.now) told in
    let closed = touched_closing c.args.slot c.args.gate _ _ (c.close_slot.ensures.bytes told).touched in
    let behind = touched_body c.args.slot _ _ _ closed (c.write_body.ensures.bytes told).touched in
    let keeps = KeepsRoot-join c.args.slot _ _ _ (c.close_slot.ensures.root told) (c.write_body.ensures.root told) in
    let changes = c.open_slot.ensures.root told c.args.next.now (c.in_ok-write_body.ensures.bytes told).body in
    ChangesRoot-after c.args.slot c.args.next.now c.open_slot.result _ _ _ whole keeps behind changes
