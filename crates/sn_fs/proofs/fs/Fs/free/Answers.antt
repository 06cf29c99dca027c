use Rattle.std.proofs.Common.{◌∙◌}
use Rattle.sn_fs.proofs.fs.Fs.free.Goals as goal

pub returns-clause-blocks : goal.returns-clause-blocks
returns-clause-blocks g c world r = c.free.ensures ∙ r.charged.free
