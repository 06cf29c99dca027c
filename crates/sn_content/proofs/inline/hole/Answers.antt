use Rattle.std.proofs.Common.{refl}
use Rattle.sn_layout.specs.Bytes.{zeros}
use Rattle.sn_content.proofs.inline.hole.Goals as goal

pub returns : goal.returns
unfolding zeros
returns c = refl
