use Rattle.std.proofs.lemmas.Nat.{or_lt}
use Rattle.sn_acl.proofs.rights.Permissions.union.Goals as goal

pub invariant_of-result : goal.invariant_of-result
invariant_of-result c = rw (c.union.ensures tt) (or_lt 3 c.self.inside.rights.0 c.other.inside.rights.0 c.self.invariant c.other.invariant)
