use Rattle.std.proofs.Common.{◌+◌, ◌*◌, ◌/◌, ◌-◌, length, take, arith}
use Rattle.std.proofs.lemmas.Result.{err_from_is_err_and}
use Rattle.sn_block.specs.Lending.{device_of}
use Rattle.sn_block.proofs.StretchLemmas.{IsWriting-start, IsWriting-next, next-room, touched-next, take-sector}
use Rattle.sn_block.proofs.blocks.Blocks.write_stretch.Goals as goal

pub loop-i-init : goal.loop-i-init
loop-i-init g c = IsWriting-start g.D.Device.tells_bytes c.args.at (length c.args.bytes.now / 512) _ _

pub returns-in_err-write_sector-clause-disk : goal.returns-in_err-write_sector-clause-disk
returns-in_err-write_sector-clause-disk g c told =
    let touched = touched-next c.args.at (length c.args.bytes.now / 512) c.loop-i.i _ _ _ (omega arith) (c.loop-i.invariant.touched told) (c.write_sector.ensures.disk told).touched in
    let p = err_from_is_err_and c.from_residual.result c.from_residual.ensures.1 in
    rw (p.1, p.2) (record { touched = touched; done = tt })

pub loop-i-preserved : goal.loop-i-preserved
loop-i-preserved g c =
    IsWriting-next c.args.at (length c.args.bytes.now / 512) c.loop-i.i _ _ _ g.D.Device.tells_bytes (take (512 * c.loop-i.i) c.args.bytes.now) c.copy_from_slice.new.self (take (512 * (c.loop-i.i + 1)) c.args.bytes.now) c.in_ok-write_sector.field-0 _ _ _ (omega arith)
    (take-sector c.args.bytes.now c.copy_from_slice.new.self c.loop-i.i (512 * c.loop-i.i + 512 - 512 * c.loop-i.i) (omega arith) c.copy_from_slice.ensures.after)
    c.loop-i.invariant (λ told. next-room c.args.at (length c.args.bytes.now / 512) c.loop-i.i _ _ _ (omega arith) c.requires.room c.loop-i.invariant.counts (g.met.D.Device.count (device_of c.loop-i.self) told)) c.in_ok-write_sector.ensures.counts.done (λ told. c.in_ok-write_sector.ensures.disk told)
