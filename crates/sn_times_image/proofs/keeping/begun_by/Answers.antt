use Rattle.std.proofs.Common.{◌≡◌, ◌∙◌}
use Rattle.sn_device.specs.Disk.{reads}
use Rattle.sn_times.specs.Dates.{Dates}
use Rattle.sn_times_file.specs.Keeping.{IsRestored}
use Rattle.sn_times_image.specs.Identity.{identity_of}
use Rattle.sn_times_image.proofs.Beginnings.{restored_along}
use Rattle.sn_times_image.proofs.Reading.{only_reads, some_from_ok}
use Rattle.sn_times_image.proofs.keeping.begun_by.Goals as goal

pub returns-in_err-identity-clause-begun : goal.returns-in_err-identity-clause-begun
returns-in_err-identity-clause-begun g c told = rw c.from_residual.ensures tt

pub returns-in_err-identity-clause-same : goal.returns-in_err-identity-clause-same
returns-in_err-identity-clause-same g c told = c.identity_of.ensures.same told

pub returns-in_err-identity-clause-counts : goal.returns-in_err-identity-clause-counts
returns-in_err-identity-clause-counts g c = only_reads c.identity_of.result _ _ c.identity_of.ensures.counts

pub returns-clause-begun : goal.returns-clause-begun
returns-clause-begun g c told =
    let identity = identity_of (reads (g.D.Device.disk c.args.device.now)) in
    let same : c.as_slice.result.now ≡ identity = c.as_slice.ensures ∙ c.in_ok-identity.ensures.told told in
    rw c.ok.ensures.value
    (some_from_ok c.restore.result
    (λ (times : Dates). IsRestored c.as_slice.result.now c.args.bytes.now c.args.now times)
    (λ (times : Dates). IsRestored identity c.args.bytes.now c.args.now times)
    (restored_along c.as_slice.result.now identity c.args.bytes.now c.args.now same)
    c.restore.ensures.restored)

pub returns-clause-same : goal.returns-clause-same
returns-clause-same g c told = c.identity_of.ensures.same told

pub returns-clause-counts : goal.returns-clause-counts
returns-clause-counts g c = only_reads c.identity_of.result _ _ c.identity_of.ensures.counts
