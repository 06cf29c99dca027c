use Rattle.std.proofs.Common.{◌≡◌, ◌+◌, ◌*◌, ◌<◌, length, ap, ◌∙◌, arith}
use Rattle.std.proofs.lemmas.Result.{err_from_is_err_and}
use Rattle.sn_device.specs.Disk.{reads}
use Rattle.sn_block.specs.Lending.{device_of}
use Rattle.sn_ondisk.specs.LogHalf.{cleared_sector}
use Rattle.sn_log.specs.Positions.{half_base}
use Rattle.sn_log.proofs.ClearLemmas.{cleared-at, clears-nothing, clears-at, blank}
use Rattle.sn_log.proofs.clearing.clear.Goals as goal

pub returns-in_err-read_sector-clause-disk : goal.returns-in_err-read_sector-clause-disk
returns-in_err-read_sector-clause-disk g c told =
    let p = err_from_is_err_and c.from_residual.result c.from_residual.ensures.1 in
    let old = g.D.Device.disk (device_of c.args.blocks.now) in
    let room : half_base c.args.geometry c.args.half + c.args.place < length (reads old) = omega (arith, c.requires.place, c.requires.disk, c.first_block-start.ensures.start, c.first_block-start.ensures.within, g.met.D.Device.count (device_of c.args.blocks.now) told) in
    rw (p.1, p.2) (clears-nothing (half_base c.args.geometry c.args.half) c.args.place old (g.met.D.Device.whole (device_of c.args.blocks.now) told) room _ _ (c.read_sector.ensures.same told))

pub returns-in_err-write_synced-clause-disk : goal.returns-in_err-write_synced-clause-disk
returns-in_err-write_synced-clause-disk g c told =
    let p = err_from_is_err_and c.from_residual-in_err-write_synced.result c.from_residual-in_err-write_synced.ensures.1 in
    let old = g.D.Device.disk (device_of c.args.blocks.now) in
    let room : half_base c.args.geometry c.args.half + c.args.place < length (reads old) = omega (arith, c.requires.place, c.requires.disk, c.first_block-start.ensures.start, c.first_block-start.ensures.within, g.met.D.Device.count (device_of c.args.blocks.now) told) in
    let here : 8 * c.from.result + c.cleared_place.result ≡ cleared_sector (reads old) (half_base c.args.geometry c.args.half) c.args.place =
    ap (λ s. 8 * s + c.cleared_place.result) c.from.ensures
    ∙ cleared-at (reads old) (half_base c.args.geometry c.args.half) c.first_block-start.result c.args.place c.cleared_place.result c.read_sector.new.sector c.first_block-start.ensures.start (c.in_ok-read_sector.ensures.bytes told) c.cleared_place.ensures.value in
    rw (p.1, p.2) (clears-at (half_base c.args.geometry c.args.half) c.args.place _ _ old _ _ _ (g.met.D.Device.whole (device_of c.args.blocks.now) told) room (c.read_sector.ensures.same told) here blank
    (record { touched = (c.write_synced.ensures.disk told).touched; done = tt; synced = tt }))

pub returns-clause-disk : goal.returns-clause-disk
returns-clause-disk g c told =
    let old = g.D.Device.disk (device_of c.args.blocks.now) in
    let room : half_base c.args.geometry c.args.half + c.args.place < length (reads old) = omega (arith, c.requires.place, c.requires.disk, c.first_block-start.ensures.start, c.first_block-start.ensures.within, g.met.D.Device.count (device_of c.args.blocks.now) told) in
    let here : 8 * c.from.result + c.cleared_place.result ≡ cleared_sector (reads old) (half_base c.args.geometry c.args.half) c.args.place =
    ap (λ s. 8 * s + c.cleared_place.result) c.from.ensures
    ∙ cleared-at (reads old) (half_base c.args.geometry c.args.half) c.first_block-start.result c.args.place c.cleared_place.result c.read_sector.new.sector c.first_block-start.ensures.start (c.in_ok-read_sector.ensures.bytes told) c.cleared_place.ensures.value in
    clears-at (half_base c.args.geometry c.args.half) c.args.place _ _ old _ _ _ (g.met.D.Device.whole (device_of c.args.blocks.now) told) room (c.read_sector.ensures.same told) here blank
    (record { touched = (c.in_ok-write_synced.ensures.disk told).touched; done = (c.in_ok-write_synced.ensures.disk told).done; synced = (c.in_ok-write_synced.ensures.disk told).synced })
