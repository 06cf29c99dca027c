use Rattle.std.proofs.Common.{refl}
use Rattle.sn_plan.proofs.Following.{after, gives_it}
use Rattle.sn_serve_files.proofs.opening.get_handle.Goals as goal

pub returns : goal.returns
returns g c = after _ c.open.ensures (gives_it refl)
