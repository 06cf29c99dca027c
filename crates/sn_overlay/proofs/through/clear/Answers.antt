use Rattle.std.proofs.Common.{refl}
use Rattle.sn_overlay.specs.Pieces.{zeros}
use Rattle.sn_overlay.proofs.through.clear.Goals as goal

pub returns : goal.returns
unfolding zeros
returns c = refl
