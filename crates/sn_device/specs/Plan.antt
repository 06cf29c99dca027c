-- The faults that a device in memory is set to answer with.
use Rattle.std.specs.Prelude.{ℕ, zero, suc, Bool, true, false, ◌||◌, Option, None, Some, if◌then◌else◌}
use Rattle.sn_device.specs.declared.plan.Plan.{Plan}
use Rattle.sn_device.specs.declared.plan.Stop.{Stop}
use Rattle.sn_device.specs.declared.plan.Stop.TheVariants.{Never, After, Reached}

-- with the first of so many calls a fault is due
abbrev pub is_next : Option ℕ → Bool
is_next None = false
is_next (Some zero) = false
is_next (Some (suc zero)) = true
is_next (Some (suc (suc k))) = false

abbrev pub one_fewer : Option ℕ → Option ℕ
one_fewer None = None
one_fewer (Some zero) = None
one_fewer (Some (suc zero)) = None
one_fewer (Some (suc (suc k))) = Some (suc k)

abbrev pub has_stopped : Stop → Bool
has_stopped Never = false
has_stopped (After k) = false
has_stopped Reached = true

-- no write more is to succeed
abbrev pub stops_writes : Stop → Bool
stops_writes Never = false
stops_writes (After zero) = true
stops_writes (After (suc k)) = false
stops_writes Reached = true

-- after a write, which fails for another reason or doesn't
abbrev pub after_write_to : Bool → Stop → Stop
after_write_to fails Never = Never
after_write_to fails (After zero) = Reached
after_write_to fails (After (suc k)) = if fails then After (suc k) else After k
after_write_to fails Reached = Reached

-- a read or a sync is to fail now
abbrev pub is_due : Plan → Bool
is_due p = is_next p.fails_in || has_stopped p.stop

-- a write is to fail now
abbrev pub is_write_due : Plan → Bool
is_write_due p = is_next p.fails_in || stops_writes p.stop

abbrev pub after_call : Plan → Plan
after_call p = record p { fails_in = one_fewer p.fails_in }

abbrev pub after_write : Plan → Plan
after_write p = record { fails_in = one_fewer p.fails_in; stop = after_write_to (is_next p.fails_in) p.stop }
