use Rattle.std.proofs.lemmas.Result.{err_from_is_err_and}
use Rattle.sn_block.specs.Lending.{device_of}
use Rattle.sn_root.proofs.ReplacingLemmas.{KeepsRoot-written, KeepsRoot-settled, WritesBody-settled, body_touched, closed_mid}
use Rattle.sn_root.proofs.replacing.write_body.Goals as goal

pub returns-in_err-write_block-clause-bytes : goal.returns-in_err-write_block-clause-bytes
returns-in_err-write_block-clause-bytes g c told =
    let wrote = c.write_block.ensures.disk told in
    let whole = g.met.D.Device.whole (device_of c.args.blocks.now) told in
    let touched = body_touched c.args.slot c.body_block.result c.encode.new.block _ _ c.body_block.ensures.value c.write_block.result wrote in
    let closed = closed_mid c.args.slot c.body_block.result c.encode.new.block _ _ c.body_block.ensures.value c.write_block.result whole (c.requires.closed told) wrote in
    let p = err_from_is_err_and c.from_residual.result c.from_residual.ensures.1 in
    rw (p.1, p.2) (record { touched = touched; closed = closed; body = tt; synced = tt })

pub returns-in_err-write_block-clause-root : goal.returns-in_err-write_block-clause-root
returns-in_err-write_block-clause-root g c told =
    KeepsRoot-written c.args.slot c.body_block.result c.encode.new.block _ _ c.body_block.ensures.value c.write_block.result (g.met.D.Device.whole (device_of c.args.blocks.now) told) (c.requires.closed told) (c.write_block.ensures.disk told)

pub returns-clause-bytes : goal.returns-clause-bytes
returns-clause-bytes g c told =
    WritesBody-settled c.args.slot c.body_block.result c.encode.new.block _ _ c.body_block.ensures.value c.write_block.result (g.met.D.Device.whole (device_of c.args.blocks.now) told) (c.requires.closed told) (c.write_block.ensures.disk told) _ c.sync.result (c.sync.ensures.disk told)
    c.args.next.now c.requires.fits (c.in_ok-write_block.ensures.disk told).done c.encode.ensures

pub returns-clause-root : goal.returns-clause-root
returns-clause-root g c told =
    KeepsRoot-settled c.args.slot c.body_block.result c.encode.new.block _ _ c.body_block.ensures.value c.write_block.result (g.met.D.Device.whole (device_of c.args.blocks.now) told) (c.requires.closed told) (c.write_block.ensures.disk told) _ c.sync.result (c.sync.ensures.disk told)
