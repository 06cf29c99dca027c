use Rattle.std.proofs.Common.{◌+◌, ◌/◌, length, slice_set, ap, ◌∙◌, arith}
use Rattle.std.proofs.lemmas.Result.{err_from_is_err_and}
use Rattle.sn_device.specs.Disk.{reads}
use Rattle.sn_block.specs.Lending.{device_of}
use Rattle.sn_log.proofs.WriteLemmas.{behind-stretch, behind-gate, behind-synced}
use Rattle.sn_log.proofs.appending.write_behind.Goals as goal

pub returns-in_err-write_stretch-clause-disk : goal.returns-in_err-write_stretch-clause-disk
returns-in_err-write_stretch-clause-disk g c told =
    let p = err_from_is_err_and c.from_residual.result c.from_residual.ensures.1 in
    rw (p.1, p.2) (record { touched = behind-stretch c.args.at (length c.args.body.now / 512) _ _ (c.write_stretch.ensures.disk told).touched; body = tt; shut = tt; synced = tt })

pub returns-in_err-write_sector-clause-disk : goal.returns-in_err-write_sector-clause-disk
returns-in_err-write_sector-clause-disk g c told =
    let p = err_from_is_err_and c.from_residual-in_err-write_sector.result c.from_residual-in_err-write_sector.ensures.1 in
    rw (p.1, p.2) (record { touched = behind-gate c.args.at (length c.args.body.now / 512) _ _ _ (c.write_stretch.ensures.disk told).touched (c.write_sector.ensures.disk told).touched; body = tt; shut = tt; synced = tt })

pub returns-clause-disk : goal.returns-clause-disk
returns-clause-disk g c told =
    let n = length c.args.body.now / 512 in
    let mid = g.D.Device.disk (device_of c.write_stretch.new.self) in
    behind-synced c.args.at n c.sync.result c.args.body.now _ _ _ _ (c.write_stretch.ensures.disk told).touched (c.in_ok-write_stretch.ensures.disk told).done
    (omega (arith, c.requires.room, c.write_stretch.ensures.counts.sectors, g.met.D.Device.count (device_of c.write_stretch.new.self) told))
    (c.write_sector.ensures.disk told).touched
    ((c.in_ok-write_sector.ensures.disk told).done ∙ ap (λ sector. slice_set (reads mid) (c.args.at + 1 + n) sector) c.sector_of.ensures.bytes)
    (c.sync.ensures.disk told)
