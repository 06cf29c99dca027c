use Rattle.sn_acl.proofs.Shown.{sets-three}
use Rattle.sn_acl.proofs.laws.mode_sets_three_entries.Goals as goal

pub returns : goal.returns
returns c = sets-three
