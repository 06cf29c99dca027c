use Rattle.std.proofs.Common.{sym}
use Rattle.sn_model.specs.Settling.{settled}
use Rattle.sn_live_world.proofs.world.LiveWorld.restore.Goals as goal

pub returns-clause-over : goal.returns-clause-over
returns-clause-over c frozen restored = c.replace_root.ensures.live frozen (settled frozen) (sym restored.shown) restored.live
