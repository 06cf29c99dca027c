use Rattle.sn_serve_looks.specs.Messages.{forget}
use Rattle.sn_serve_looks.proofs.forgetting.forget.Goals as goal

pub returns : goal.returns
unfolding forget
returns g c = c.forget.ensures
