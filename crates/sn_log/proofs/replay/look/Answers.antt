use Rattle.std.proofs.Common.{◌≡◌, ◌+◌, ◌*◌, ◌∙◌, sym, ap, arith}
use Rattle.sn_device.specs.Disk.{Disk, reads}
use Rattle.sn_device.specs.Sectors.{sector_at}
use Rattle.sn_ondisk.specs.Gates.{IsOpen}
use Rattle.sn_layout.specs.Gate.{gate_of}
use Rattle.sn_ondisk.proofs.BlockLemmas.{gate_read}
use Rattle.sn_block.specs.Lending.{device_of}
use Rattle.sn_log.specs.Positions.{base_at}
use Rattle.sn_log.proofs.HeadLemmas.{look-stops, look-finds}
use Rattle.sn_log.proofs.replay.look.Goals as goal

pub returns-then-head-epoch-clause-looks : goal.returns-then-head-epoch-clause-looks
returns-then-head-epoch-clause-looks g c told =
    let at = c.args.position in
    let before = reads (g.D.Device.disk (device_of c.args.blocks.now)) in
    let place : 8 * c.start-start.result + (c.place-place.result + 1) ≡ base_at at + at.place + 1 = omega (arith, c.start-start.ensures.start, c.place-place.ensures.value) in
    let is : c.read_sector-2.new.sector ≡ sector_at before (base_at at + at.place + 1) =
    c.in_ok-read_sector-2.ensures.bytes told
    ∙ ap (λ (d : Disk). sector_at (reads d) (8 * c.start-start.result + (c.place-place.result + 1))) (c.read_sector.ensures.same told)
    ∙ ap (sector_at before) place in
    look-stops before at c.read-head.result c.read_sector-2.new.sector c.read-head.new.reader c.read-head.ensures.fits (omega (arith, c.epoch.type_inv, c.epoch.ensures)) is (sym c.new.ensures ∙ c.read-head.ensures.read)
    (λ same. c.if-head-epoch.true (same ∙ sym c.epoch.ensures))

pub returns-clause-looks : goal.returns-clause-looks
returns-clause-looks g c told =
    let at = c.args.position in
    let before = reads (g.D.Device.disk (device_of c.args.blocks.now)) in
    let place : 8 * c.start-start.result + (c.place-place.result + 1) ≡ base_at at + at.place + 1 = omega (arith, c.start-start.ensures.start, c.place-place.ensures.value) in
    let is : c.read_sector-2.new.sector ≡ sector_at before (base_at at + at.place + 1) =
    c.in_ok-read_sector-2.ensures.bytes told
    ∙ ap (λ (d : Disk). sector_at (reads d) (8 * c.start-start.result + (c.place-place.result + 1))) (c.read_sector.ensures.same told)
    ∙ ap (sector_at before) place in
    let gate : 8 * c.start-start.result + c.place-place.result ≡ base_at at + at.place = omega (arith, c.start-start.ensures.start, c.place-place.ensures.value) in
    let opened : IsOpen before (base_at at + at.place) =
    (gate_read before (base_at at + at.place)).1 (ap gate_of (sym (c.in_ok-read_sector.ensures.bytes told ∙ ap (sector_at before) gate)) ∙ sym c.in-Open.ensures) in
    look-finds before at c.read-head.result c.read_sector-2.new.sector c.read-head.new.reader c.read-head.ensures.fits (omega (arith, c.epoch.type_inv, c.epoch.ensures)) is (sym c.new.ensures ∙ c.read-head.ensures.read)
    (c.if-head-epoch.false ∙ c.epoch.ensures) opened (omega (arith, c.if-place-gt-LAST_GATE.false, c.place-place.ensures.value))
