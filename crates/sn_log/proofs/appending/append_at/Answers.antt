use Rattle.std.proofs.Common.{◌≡◌, ◌+◌, ◌*◌, ◌/◌, ◌<◌, length, take, ◌∙◌, ap, arith}
use Rattle.std.proofs.lemmas.List.{length-take-le}
use Rattle.std.proofs.lemmas.Result.{err_from_is_err_and}
use Rattle.sn_device.specs.Disk.{reads}
use Rattle.sn_ondisk.specs.LogHalf.{body_sectors, body_bytes}
use Rattle.sn_record.specs.Payload.{payload_bytes}
use Rattle.sn_block.specs.Lending.{device_of}
use Rattle.sn_log.specs.Positions.{base_at}
use Rattle.sn_log.proofs.AppendLemmas.{append-failed-at, append-done-at, appends_done, appends_failing}
use Rattle.sn_log.proofs.appending.append_at.Goals as goal

pub returns-in_err-write_behind-clause-disk : goal.returns-in_err-write_behind-clause-disk
returns-in_err-write_behind-clause-disk g c told =
    let p = err_from_is_err_and c.from_residual.result c.from_residual.ensures.1 in
    let here : 8 * c.from.result + c.place.result ≡ base_at c.args.position + c.args.position.place = omega (arith, c.from.ensures, c.start.ensures.start, c.place.ensures.value) in
    let all : length (take c.put_body-size.result c.put_body-size.new.body) ≡ c.put_body-size.result = length-take-le c.put_body-size.result c.put_body-size.new.body (omega (arith, c.put_body-size.array_long, c.put_body-size.ensures.size, c.put_body-size.ensures.fits.1)) in
    let long : length (take c.put_body-size.result c.put_body-size.new.body) / 512 ≡ body_sectors (payload_bytes c.args.payload.now) = omega (arith, all, c.put_body-size.ensures.size) in
    rw (p.1, p.2) (append-failed-at c.args.position c.args.payload.now c.put_body-size.ensures.spelled c.requires.room _ _ _ _ _ here long (g.met.D.Device.whole (device_of c.args.blocks.now) told) (c.write_behind.ensures.disk told).touched)

pub returns-in_err-write_synced-clause-disk : goal.returns-in_err-write_synced-clause-disk
returns-in_err-write_synced-clause-disk g c told =
    let q = err_from_is_err_and c.from_residual-in_err-write_synced.result c.from_residual-in_err-write_synced.ensures.1 in
    let here : 8 * c.from.result + c.place.result ≡ base_at c.args.position + c.args.position.place = omega (arith, c.from.ensures, c.start.ensures.start, c.place.ensures.value) in
    let all : length (take c.put_body-size.result c.put_body-size.new.body) ≡ c.put_body-size.result = length-take-le c.put_body-size.result c.put_body-size.new.body (omega (arith, c.put_body-size.array_long, c.put_body-size.ensures.size, c.put_body-size.ensures.fits.1)) in
    let long : length (take c.put_body-size.result c.put_body-size.new.body) / 512 ≡ body_sectors (payload_bytes c.args.payload.now) = omega (arith, all, c.put_body-size.ensures.size) in
    let inside : 8 * c.from.result + c.place.result < length (reads (g.D.Device.disk (device_of c.write_behind.new.blocks))) = omega (arith, c.requires.disk, c.start.ensures.within, c.from.ensures, c.place.ensures.within, c.write_behind.ensures.counts.sectors, g.met.D.Device.count (device_of c.write_behind.new.blocks) told) in
    let payload = payload_bytes c.args.payload.now in
    let spelled : take c.put_body-size.result c.put_body-size.new.body ≡ body_bytes c.args.position.epoch c.args.position.count payload =
    c.put_body-size.ensures.bytes ∙ ap (λ e. body_bytes e c.count.result payload) c.epoch.ensures ∙ ap (λ n. body_bytes c.args.position.epoch n payload) c.count.ensures in
    appends_failing c.args.position c.args.payload.now c.write_synced.result _ _ _ _ c.in_err-write_synced.was q.1 (append-done-at c.args.position c.args.payload.now c.put_body-size.ensures.spelled c.requires.room _ _ _ _ c.write_synced.result _ _ _ here long c.put_body-size.ensures.fits spelled
    (g.met.D.Device.whole (device_of c.args.blocks.now) told) (g.met.D.Device.whole (device_of c.write_behind.new.blocks) told) inside
    (c.in_ok-write_behind.ensures.disk told) c.sector_of.ensures.bytes (c.write_synced.ensures.disk told))

pub returns-clause-disk : goal.returns-clause-disk
returns-clause-disk g c told =
    let here : 8 * c.from.result + c.place.result ≡ base_at c.args.position + c.args.position.place = omega (arith, c.from.ensures, c.start.ensures.start, c.place.ensures.value) in
    let all : length (take c.put_body-size.result c.put_body-size.new.body) ≡ c.put_body-size.result = length-take-le c.put_body-size.result c.put_body-size.new.body (omega (arith, c.put_body-size.array_long, c.put_body-size.ensures.size, c.put_body-size.ensures.fits.1)) in
    let long : length (take c.put_body-size.result c.put_body-size.new.body) / 512 ≡ body_sectors (payload_bytes c.args.payload.now) = omega (arith, all, c.put_body-size.ensures.size) in
    let inside : 8 * c.from.result + c.place.result < length (reads (g.D.Device.disk (device_of c.write_behind.new.blocks))) = omega (arith, c.requires.disk, c.start.ensures.within, c.from.ensures, c.place.ensures.within, c.write_behind.ensures.counts.sectors, g.met.D.Device.count (device_of c.write_behind.new.blocks) told) in
    let payload = payload_bytes c.args.payload.now in
    let spelled : take c.put_body-size.result c.put_body-size.new.body ≡ body_bytes c.args.position.epoch c.args.position.count payload =
    c.put_body-size.ensures.bytes ∙ ap (λ e. body_bytes e c.count.result payload) c.epoch.ensures ∙ ap (λ n. body_bytes c.args.position.epoch n payload) c.count.ensures in
    appends_done c.args.position c.args.payload.now c.write_synced.result _ _ _ _ c.in_ok-write_synced.was (append-done-at c.args.position c.args.payload.now c.put_body-size.ensures.spelled c.requires.room _ _ _ _ c.write_synced.result _ _ _ here long c.put_body-size.ensures.fits spelled
    (g.met.D.Device.whole (device_of c.args.blocks.now) told) (g.met.D.Device.whole (device_of c.write_behind.new.blocks) told) inside
    (c.in_ok-write_behind.ensures.disk told) c.sector_of.ensures.bytes (c.write_synced.ensures.disk told))
