use Rattle.std.proofs.Common.{◌≡◌, take}
use Rattle.std.specs.Prelude.{map}
use Rattle.sn_acl.specs.Modes.{entry_under}
use Rattle.sn_acl.proofs.list.with_mode.Given as goal

abbrev pub invariant-loop-entry : goal.invariant-loop-entry
invariant-loop-entry l = l.changed.items ≡ map (entry_under l.mode l.masked) (take l.entry-index l.entries)
