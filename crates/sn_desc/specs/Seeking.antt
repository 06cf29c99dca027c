-- What a seek leaves.
use Rattle.std.specs.Prelude.{◌≡◌, Result, Ok, Err}
use Rattle.sn_model.specs.declared.reply.Refusal.{Refusal}
use Rattle.sn_model.specs.Descriptors.{Descriptors}
use Rattle.sn_desc.specs.InUse.{InUse}

-- the descriptors that were asked for, or the refusal, and then nothing changes
abbrev pub Seeks : Result (Unit {0}) Refusal → Result Descriptors Refusal → InUse → InUse → Type 0
Seeks (Ok _) asked old new = (table : Descriptors) × (asked ≡ Ok table) × (new ≡ record old { descriptors = table })
Seeks (Err r) asked old new = (asked ≡ Err r) × (new ≡ old)
