-- A read that fails.
use Rattle.std.proofs.Common.{◌≡◌, inl, inr, Bool, true, false, refl, sym, ap, subst, ◌∙◌, arith}
use Rattle.std.specs.Prelude.{MatchBool}
use Rattle.sn_block.specs.Counts.{FailsRead, IsLater}
use Rattle.sn_block.proofs.CountLemmas.{later-same}
use Rattle.sn_device.specs.Status.{has_ended, one_failure}
use Rattle.sn_device.specs.declared.status.Status.{Status}
use Rattle.sn_examine.specs.Failing.{HasFailed}

-- a read that failed
pub fails_read : (old new : Status) → FailsRead old new → HasFailed old new × IsLater old new
fails_read old new fails = told (has_ended old) refl fails
  where
    told : (ended : Bool) → has_ended old ≡ ended → MatchBool ended (new ≡ old) (new ≡ one_failure old) → HasFailed old new × IsLater old new
    told true is same = (
      inr (sym (ap has_ended (sym same)) ∙ is),
      later-same old new same,
    )
    told false is same = (
      inl (omega (arith, ap (λ (s : Status). s.failures) same)),
      subst (IsLater old) (sym same) (record { sectors = refl; failures = omega arith; writes = omega arith; syncs = omega arith; spent = λ was. was }),
    )
