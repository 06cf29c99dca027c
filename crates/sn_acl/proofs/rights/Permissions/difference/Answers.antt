use Rattle.std.proofs.Common.{arith, ◌-◌}
use Rattle.std.proofs.lemmas.Nat.{and_le_l}
use Rattle.sn_acl.proofs.rights.Permissions.difference.Goals as goal

pub invariant_of-result : goal.invariant_of-result
invariant_of-result c =
    omega (arith, c.difference.ensures tt, c.self.invariant, and_le_l c.self.inside.rights.0 (255 - c.other.inside.rights.0))
