use Rattle.std.proofs.Common.{sym, ◌∙◌}
use Rattle.sn_desc.specs.OpenFiles.{files_of}
use Rattle.sn_desc.proofs.HeldLemmas.{live_is}
use Rattle.sn_desc.proofs.sessions.Sessions.live.Goals as goal

pub returns : goal.returns
returns c = c.live.ensures ∙ sym (live_is (files_of c.args.self.now.files))
