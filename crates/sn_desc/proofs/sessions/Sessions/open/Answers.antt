use Rattle.std.proofs.Common.{ap, ◌∙◌}
use Rattle.sn_desc.specs.InUse.{descriptors_in}
use Rattle.sn_desc.specs.OpenFiles.{files_of}
use Rattle.sn_desc.proofs.SessionLemmas.{opens, vacant}
use Rattle.sn_desc.proofs.sessions.Sessions.open.Goals as goal

pub open-requires-clause-vacant : goal.open-requires-clause-vacant
open-requires-clause-vacant c =
    let s = c.args.self.now in
    vacant (files_of s.files) c.args.session c.in-Ok.fd s.files.counted.seats c.requires.session c.in-Ok.ensures.within c.in-Ok.ensures.vacant

pub returns-in-Ok-clause-ok : goal.returns-in-Ok-clause-ok
returns-in-Ok-clause-ok c =
    let s = c.args.self.now in
    let same = ap descriptors_in c.open.ensures.files ∙ opens (files_of s.files) c.args.session c.in-Ok.fd s.files.counted.seats c.requires.session c.in-Ok.ensures.within c.args.file in
    λ i. record { sessions = s.sessions.items; descriptors = same i; room = c.open.ensures.room i }
