-- What a device reports of itself besides its bytes.
use Rattle.std.specs.Prelude.{◌≡◌, ◌⊎◌, ◌+◌, ◌-◌, ◌^◌, ◌<◌, ℕ, Bool, true, false, ◌||◌, nat_le, IsTrue, Result, IsErr, OnOk, OnErr, MatchBool}
use Rattle.sn_device.specs.declared.status.Status.{Status}

-- The device can do nothing more: a count or the clock is at the top of a `u64`, or its record couldn't grow.
abbrev pub has_ended : Status → Bool
has_ended s = s.is_spent || nat_le (2 ^ 64 - 1) s.failures || nat_le (2 ^ 64 - 1) (s.writes + s.syncs)

-- of a device of so many sectors that wasn't called yet
abbrev pub uncalled : ℕ → Status
uncalled sectors = record { sectors = sectors; failures = 0; writes = 0; syncs = 0; is_spent = false }

-- of a device that begins anew after a crash
abbrev pub restarted : Status → Status
restarted s = record { sectors = s.sectors; failures = 0; writes = 0; syncs = 0; is_spent = s.is_spent }

abbrev pub one_failure : Status → Status
one_failure s = record s { failures = s.failures + 1 }

abbrev pub one_write : Status → Status
one_write s = record s { writes = s.writes + 1 }

abbrev pub one_sync : Status → Status
one_sync s = record s { syncs = s.syncs + 1 }

abbrev pub spent : Status → Status
spent s = record s { is_spent = true }

-- what a call with this answer does to the counts, where `called` counts the call itself
pub record Counts {T E : Type 0} (called : Status → Status) (result : Result T E) (old new : Status) : Type 0 where
  pub done : OnOk result (new ≡ called old)
  pub failed : OnErr result (MatchBool (has_ended old) (new ≡ old) (new ≡ one_failure (called old)))
  pub ended : IsTrue (has_ended old) → IsErr result

-- the same, where a call may also find that the device's record can't grow: then that is its end, and nothing is done
pub record CountsOrEnds {T E : Type 0} (called : Status → Status) (result : Result T E) (old new : Status) : Type 0 where
  pub done : OnOk result (new ≡ called old)
  pub failed : OnErr result (MatchBool (has_ended old) (new ≡ old) ((new ≡ one_failure (called old)) ⊎ (new ≡ spent old)))
  pub ended : IsTrue (has_ended old) → IsErr result

-- a fault has a cause: the count of failures rose, or the device has ended
abbrev pub HasCause : {T E : Type 0} → Result T E → Status → Status → Type 0
HasCause result old new = OnErr result ((old.failures < new.failures) ⊎ IsTrue (has_ended new))
