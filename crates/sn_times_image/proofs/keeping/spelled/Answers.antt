use Rattle.std.proofs.Common.{◌≡◌, ◌∙◌, List, ap, ℕ}
use Rattle.sn_device.specs.Disk.{reads}
use Rattle.sn_times_file.specs.Keeping.{left_by}
use Rattle.sn_times_file.specs.Kept.{spelling}
use Rattle.sn_times_image.specs.Identity.{identity_of}
use Rattle.sn_times_image.proofs.Reading.{only_reads, some_from_ok}
use Rattle.sn_times_image.proofs.keeping.spelled.Goals as goal

pub returns-in_err-identity-clause-spelled : goal.returns-in_err-identity-clause-spelled
returns-in_err-identity-clause-spelled g c told = rw c.from_residual.ensures tt

pub returns-in_err-identity-clause-same : goal.returns-in_err-identity-clause-same
returns-in_err-identity-clause-same g c told = c.identity_of.ensures.same told

pub returns-in_err-identity-clause-counts : goal.returns-in_err-identity-clause-counts
returns-in_err-identity-clause-counts g c = only_reads c.identity_of.result _ _ c.identity_of.ensures.counts

pub returns-clause-spelled : goal.returns-clause-spelled
returns-clause-spelled g c told =
    let identity = identity_of (reads (g.D.Device.disk c.args.device.now)) in
    let same : c.as_slice.result.now ≡ identity = c.as_slice.ensures ∙ c.in_ok-identity.ensures.told told in
    rw c.ok.ensures.value
    (some_from_ok c.keep.result
    (λ bytes. bytes.items ≡ spelling (left_by c.as_slice.result.now c.args.times.now))
    (λ bytes. bytes.items ≡ spelling (left_by identity c.args.times.now))
    (λ bytes is. is ∙ ap (λ (root : List ℕ). spelling (left_by root c.args.times.now)) same)
    c.keep.ensures.ok)

pub returns-clause-same : goal.returns-clause-same
returns-clause-same g c told = c.identity_of.ensures.same told

pub returns-clause-counts : goal.returns-clause-counts
returns-clause-counts g c = only_reads c.identity_of.result _ _ c.identity_of.ensures.counts
