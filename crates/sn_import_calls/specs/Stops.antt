-- What ends with an entry that is stopped.
use Rattle.std.specs.Prelude.{Bool, true, false}
use Rattle.sn_import.specs.Refused.{ends}
use Rattle.sn_import_calls.specs.declared.stop.Stop.{Stop}
use Rattle.sn_import_calls.specs.declared.stop.Stop.TheVariants.{Refused, Memory, Damaged, Ended, Unread}

-- a call is the reason, or the memory for one
abbrev pub is_call : Stop → Bool
is_call (Refused errno) = true
is_call Memory = true
is_call Damaged = false
is_call Ended = false
is_call (Unread e) = false

-- nothing more is made
abbrev pub ends_import : Stop → Bool
ends_import (Refused errno) = ends errno
ends_import Memory = true
ends_import Damaged = false
ends_import Ended = false
ends_import (Unread e) = false

-- no further entry is read
abbrev pub ends_reading : Stop → Bool
ends_reading (Refused errno) = ends errno
ends_reading Memory = true
ends_reading Damaged = true
ends_reading Ended = true
ends_reading (Unread e) = true
