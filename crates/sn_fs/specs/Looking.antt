-- What a look leaves of what is held.
use Rattle.std.specs.Prelude.{◌≡◌}
use Rattle.sn_block.specs.Counts.{FailsRead}
use Rattle.sn_held.specs.Held.{Held}
use Rattle.sn_live_world.specs.declared.fault.LookFault.{LookFault}
use Rattle.sn_live_world.specs.declared.fault.LookFault.TheVariants as look

-- Why something couldn't be looked at. Nothing has changed but what the device counts of a read that failed.
abbrev pub IsUnseen : LookFault → Held → Held → Type 0
IsUnseen look.Memory old new = new ≡ old
IsUnseen look.Read old new = (new ≡ record old { status = new.status }) × FailsRead old.status new.status
