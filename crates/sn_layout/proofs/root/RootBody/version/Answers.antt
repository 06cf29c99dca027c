use Rattle.std.proofs.Common.{sym, ◌∙◌}
use Rattle.sn_layout.proofs.root.RootBody.version.Goals as goal

pub returns : goal.returns
returns c = (c.u32.new.self, sym c.new.ensures ∙ c.u32.ensures.read)
