use Rattle.std.proofs.Common.{◌≡◌, ⊎_elim, inr, ◌+◌, ◌*◌, ◌≤◌, sym, ap, ◌∙◌, arith}
use Rattle.std.proofs.lemmas.Bool.{leb-true, le-leb}
use Rattle.sn_device.specs.Disk.{Disk, reads}
use Rattle.sn_device.specs.Sectors.{sector_at}
use Rattle.sn_block.specs.Lending.{device_of}
use Rattle.sn_layout.specs.Gate.{gate_of}
use Rattle.sn_ondisk.specs.Gates.{IsClosed, IsOpen}
use Rattle.sn_ondisk.specs.LogHalf.{epoch_at}
use Rattle.sn_ondisk.proofs.BlockLemmas.{gate_read}
use Rattle.sn_log.specs.Positions.{half_base}
use Rattle.sn_log.proofs.LaterLemmas.{epoch_read}
use Rattle.sn_log.proofs.later.has_no_later.Goals as goal

pub returns-clause-told : goal.returns-clause-told
returns-clause-told g c told =
    let before = reads (g.D.Device.disk (device_of c.args.blocks.now)) in
    let base = half_base c.args.geometry c.args.half in
    let start = c.first_block-start.result in
    let first : 8 * start + 0 ≡ base = omega (arith, c.first_block-start.ensures.start) in
    let second : 8 * start + 1 ≡ base + 0 + 1 = omega (arith, c.first_block-start.ensures.start) in
    let is : c.read_sector-2.new.sector ≡ sector_at before (base + 0 + 1) =
    c.in_ok-read_sector-2.ensures.bytes told
    ∙ ap (λ (d : Disk). sector_at (reads d) (8 * start + 1)) (c.read_sector.ensures.same told)
    ∙ ap (sector_at before) second in
    let epoch = epoch_read before base c.read-head.result c.read_sector-2.new.sector c.read-head.new.reader c.read-head.ensures.fits is (sym c.new.ensures ∙ c.read-head.ensures.read) in
    let opened : IsOpen before base = (gate_read before base).1 (ap gate_of (sym (c.in_ok-read_sector.ensures.bytes told ∙ ap (sector_at before) first)) ∙ sym c.in-Open.ensures) in (
      λ few. inr (omega (arith, epoch, leb-true c.read-head.result.epoch c.args.epoch few)),
      λ none. le-leb c.read-head.result.epoch c.args.epoch (⊎_elim
          (λ (closed : IsClosed before base). absurd (closed opened))
          (λ (early : epoch_at before base 0 ≤ c.args.epoch). let le : c.read-head.result.epoch ≤ c.args.epoch = omega (arith, epoch, early) in le)
          none),
    )
