use Rattle.std.proofs.Common.{[]}
use Rattle.sn_untar.specs.Steps.{state_of}
use Rattle.sn_import_files.proofs.Contents.{arrives_none}
use Rattle.sn_import_files.proofs.Entry.{finished_none}
use Rattle.sn_import_calls.proofs.Made.{adds_none}
use Rattle.sn_import_files.proofs.entries.follow.Goals as goal

pub returns-in_default : goal.returns-in_default
returns-in_default g c =
    let o = c.args.object.now in (
      [],
      arrives_none (state_of c.args.untar.now) (g.R.Read.remaining c.args.archive.now),
      ([], adds_none (g.C.Calls.did c.args.to.now), finished_none o.what o c.args.fd c.args.size c.in_default.not-File),
    )
