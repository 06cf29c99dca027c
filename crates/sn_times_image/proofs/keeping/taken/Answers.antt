use Rattle.std.proofs.Common.{inl, refl}
use Rattle.sn_device.specs.Disk.{reads}
use Rattle.sn_times.specs.Dates.{Dates}
use Rattle.sn_times_file.specs.Keeping.{IsRestored}
use Rattle.sn_times_image.specs.Beginning.{MayBegin}
use Rattle.sn_times_image.specs.Identity.{identity_of}
use Rattle.sn_times_image.proofs.Beginnings.{begun}
use Rattle.sn_times_image.proofs.Reading.{some_weaker}
use Rattle.sn_times_image.proofs.keeping.taken.Goals as goal

pub returns-in_err-bytes-clause-begun : goal.returns-in_err-bytes-clause-begun
returns-in_err-bytes-clause-begun g c told = rw c.from_residual.ensures tt

pub returns-in_err-bytes-clause-same : goal.returns-in_err-bytes-clause-same
returns-in_err-bytes-clause-same g c told = refl

pub returns-in_err-bytes-clause-counts : goal.returns-in_err-bytes-clause-counts
returns-in_err-bytes-clause-counts g c = inl refl

pub returns-clause-begun : goal.returns-clause-begun
returns-clause-begun g c told =
    let disk = reads (g.D.Device.disk c.args.device.now) in
    some_weaker c.begun_by.result
    (λ (times : Dates). IsRestored (identity_of disk) c.as_slice.result.now c.args.now times)
    (λ (times : Dates). MayBegin disk c.args.now times)
    (begun disk c.as_slice.result.now c.args.now)
    (c.begun_by.ensures.begun told)

pub returns-clause-same : goal.returns-clause-same
returns-clause-same g c told = c.begun_by.ensures.same told

pub returns-clause-counts : goal.returns-clause-counts
returns-clause-counts g c = c.begun_by.ensures.counts
