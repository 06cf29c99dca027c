use Rattle.sn_acl.proofs.Unmasked.{granted-unmasked}
use Rattle.sn_acl.proofs.laws.mask_narrows.Goals as goal

pub returns : goal.returns
returns c = granted-unmasked
