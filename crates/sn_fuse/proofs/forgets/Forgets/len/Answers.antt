use Rattle.std.proofs.Common.{◌∙◌, length, sym, ap}
use Rattle.sn_fuse.proofs.Forgetting.{length-forgets_in}
use Rattle.sn_fuse.proofs.forgets.Forgets.len.Goals as goal

pub returns : goal.returns
returns c = sym (length-forgets_in c.self.inside.count c.self.inside.bytes.now) ∙ ap length c.self.view_is
