use Rattle.std.proofs.Common.{◌≡◌, ℕ, ◌+◌, ◌*◌, ◌/◌, ◌≤◌, List, sym, ap, ◌∙◌, arith}
use Rattle.sn_device.specs.Disk.{reads}
use Rattle.sn_ondisk.specs.LogHalf.{body_bytes}
use Rattle.sn_block.specs.Lending.{device_of}
use Rattle.sn_log.specs.Positions.{base_at}
use Rattle.sn_log.proofs.ReplayLemmas.{filled}
use Rattle.sn_log.proofs.replay.fill.Goals as goal

pub returns-clause-fills : goal.returns-clause-fills
returns-clause-fills g c told =
    let at = c.args.position in
    let n = c.sectors_for-sectors.result in
    let sectors : n ≡ (16 + c.args.size + 511) / 512 = c.sectors_for-sectors.ensures.value in
    let here : 8 * c.start.result + (c.place.result + 1) ≡ base_at at + at.place + 1 = omega (arith, c.start.ensures.start, c.place.ensures.value) in
    let room : at.place + n + 1 ≤ 255 = c.has_room.ensures.0 c.if-not-has_room.false in
    let heads : (payload : List ℕ) → body_bytes c.epoch.result c.count.result payload ≡ body_bytes at.epoch at.count payload =
    λ payload. ap (λ e. body_bytes e c.count.result payload) c.epoch.ensures ∙ ap (λ k. body_bytes at.epoch k payload) c.count.ensures in
    filled (reads (g.D.Device.disk (device_of c.args.blocks.now))) at (8 * c.start.result + (c.place.result + 1)) c.args.size n c.read_sectors.new.room c.is_body.result here sectors (omega arith) (omega arith) room
    (c.in_ok-read_sectors.ensures.bytes told)
    (λ is. let body = c.is_body.ensures.found is in (body.0, body.1, body.2 ∙ heads body.0))
    (λ payload long is. c.is_body.ensures.only payload long (is ∙ sym (heads payload)))
