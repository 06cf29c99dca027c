use Rattle.std.proofs.Common.{[], inl, inr, refl, sym}
use Rattle.std.proofs.lemmas.Bool.{true≢false}
use Rattle.sn_device.specs.Disk.{reads}
use Rattle.sn_times_image.specs.Identity.{identity_of, marks_of}
use Rattle.sn_times_image.proofs.Reading.{at_err, at_ok}
use Rattle.sn_times_image.proofs.identity.identity_of.Goals as goal

pub returns-in_err-geometry-clause-told : goal.returns-in_err-geometry-clause-told
returns-in_err-geometry-clause-told g c told = rw c.from_residual.ensures tt

pub returns-in_err-geometry-clause-same : goal.returns-in_err-geometry-clause-same
returns-in_err-geometry-clause-same g c told = refl

pub returns-in_err-geometry-clause-counts : goal.returns-in_err-geometry-clause-counts
returns-in_err-geometry-clause-counts g c =
    rw c.from_residual.ensures (record { found = tt; none = inl ((λ size. true≢false (sym (c.in_err-geometry.ensures.sized.1 size))), refl) })

pub take_marks-requires-clause-sized : goal.take_marks-requires-clause-sized
take_marks-requires-clause-sized g c = c.in_ok-geometry.ensures.sized.0 refl

pub take_marks-requires-clause-geometry : goal.take_marks-requires-clause-geometry
take_marks-requires-clause-geometry g c = c.in_ok-geometry.ensures.value

pub returns-in_err-ok-clause-told : goal.returns-in_err-ok-clause-told
returns-in_err-ok-clause-told g c told = rw c.from_residual-in_err-ok.ensures tt

pub returns-in_err-ok-clause-same : goal.returns-in_err-ok-clause-same
returns-in_err-ok-clause-same g c told = c.take_marks.ensures.same told

pub returns-in_err-ok-clause-counts : goal.returns-in_err-ok-clause-counts
returns-in_err-ok-clause-counts g c =
    let failed = at_err c.take_marks.result c.in_err-ok.ensures.variant c.take_marks.ensures.counts.failed in
    rw c.from_residual-in_err-ok.ensures (record { found = tt; none = inr (c.in_ok-geometry.ensures.sized.0 refl, failed) })

pub returns-clause-told : goal.returns-clause-told
unfolding identity_of
returns-clause-told g c told =
    c.finalize.ensures (marks_of (reads (g.D.Device.disk c.args.device.now)))
    (at_ok c.take_marks.result c.in_ok-ok.ensures.variant (c.take_marks.ensures.taken told) [] c.new-hasher.ensures)

pub returns-clause-same : goal.returns-clause-same
returns-clause-same g c told = c.take_marks.ensures.same told

pub returns-clause-counts : goal.returns-clause-counts
returns-clause-counts g c = record {
  found = (c.in_ok-geometry.ensures.sized.0 refl, at_ok c.take_marks.result c.in_ok-ok.ensures.variant c.take_marks.ensures.counts.done);
  none = tt;
}
