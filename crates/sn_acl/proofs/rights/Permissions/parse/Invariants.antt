use Rattle.std.proofs.Common.{◌≡◌, ℕ, ◌<◌}
use Rattle.sn_acl.specs.Rights.{permissions_text}
use Rattle.sn_acl.proofs.rights.Permissions.parse.Given as goal

abbrev pub invariant-loop-bits : goal.invariant-loop-bits
invariant-loop-bits l = (p : ℕ) → p < l.bits → l.letters ≡ permissions_text p → ⊥
