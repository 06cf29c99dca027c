use Rattle.sn_desc.specs.OpenFiles.{files_of}
use Rattle.sn_desc.proofs.OpenLemmas.{open_has, has_open as has_seat}
use Rattle.sn_desc.proofs.sessions.Sessions.has_open.Goals as goal

pub returns : goal.returns
returns c =
    let files = files_of c.args.self.now.files in
    let home = c.args.home.now in
    (λ yes. open_has home files (c.has_open.ensures.0 yes), λ has. c.has_open.ensures.1 (has_seat home files has))
