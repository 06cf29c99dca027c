use Rattle.std.proofs.Common.{ap, sym, nat_lt, ◌∙◌}
use Rattle.sn_desc.specs.OpenFiles.{files_of}
use Rattle.sn_desc.proofs.HeldLemmas.{held_is}
use Rattle.sn_desc.proofs.sessions.Sessions.is_held.Goals as goal

pub returns : goal.returns
returns c = ap (nat_lt 0) c.holders.ensures ∙ sym (held_is (files_of c.args.self.now.files) c.args.number)
