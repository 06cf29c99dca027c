use Rattle.sn_plan.proofs.Following.{after, gives_it}
use Rattle.sn_serve_looks.specs.Messages.{statfs}
use Rattle.sn_serve_looks.proofs.room.statfs.Goals as goal

pub returns : goal.returns
unfolding statfs
returns g c = after _ c.space-space.ensures (gives_it c.statistics_of.ensures)
