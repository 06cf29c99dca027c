-- What a change is charged is a small number.
use Rattle.std.proofs.Common.{◌≡◌, ◌≤◌, ◌+◌, ◌*◌, ◌^◌, ℕ, Some, Result, Ok, Err, IfOk, arith}
use Rattle.sn_limits.proofs.VersionLemmas.{fixed}
use Rattle.sn_limits.specs.Versions.{limits_of}
use Rattle.sn_limits.specs.declared.limits.Limits.{Limits}

pub few_charged : {F : Type 0} (limits : Limits) → limits_of limits.version ≡ Some limits → (charge : Result ℕ F) → IfOk charge (λ n. n ≤ 5 * limits.inode_charge + limits.block_charge * 2 ^ 53) → IfOk charge (λ n. n ≤ 2 ^ 64)
few_charged limits version (Ok n) most =
    let bounds = fixed limits.version limits version in
    omega (arith, most, bounds.inode_charge, bounds.block_charge)
few_charged limits version (Err fault) most = tt
