use Rattle.std.proofs.Common.{◌++◌, [], inr, refl}
use Rattle.sn_untar.specs.Steps.{state_of}
use Rattle.sn_import_files.proofs.Contents.{arrives_none, came_error}
use Rattle.sn_import_files.proofs.Entry.{unopened}
use Rattle.sn_import_calls.proofs.Made.{adds_more}
use Rattle.sn_import_files.proofs.entries.carry.Goals as goal

pub returns-in_err-fd : goal.returns-in_err-fd
returns-in_err-fd g c =
    let k = c.in_err-fd.ensures.made in (
      [],
      came_error _ _ [] _ _ _ _ c.from_residual.ensures.1 c.in_err-fd.ensures.calls (arrives_none (state_of c.args.untar.now) (g.R.Read.remaining c.args.archive.now)),
      (k.0, k.1, unopened c.args.object.now c.args.size [] k.0 _ _ c.from_residual.ensures.1 c.in_err-fd.ensures.calls k.2.0),
    )

pub returns : goal.returns
returns g c =
    let k = c.in_ok-fd.ensures.made in
    let h = c.follow.ensures in (
      h.0,
      h.1,
      (
        k.0 ++ h.2.0,
        adds_more _ _ _ _ _ k.1 h.2.1,
        inr (record { first = k.0; more = h.2.0; acts_are = refl; made = k.2.0; finished = rw k.2.1 at h.2.2 }),
      ),
    )
