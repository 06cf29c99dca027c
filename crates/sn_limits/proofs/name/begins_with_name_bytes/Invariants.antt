use Rattle.std.proofs.Common.{◌≡◌, ◌≤◌, length, take}
use Rattle.std.specs.List.{list_all}
use Rattle.sn_limits.specs.Names.{is_name_byte}
use Rattle.sn_limits.proofs.name.begins_with_name_bytes.Given as goal

abbrev pub invariant-vectors : goal.invariant-vectors
invariant-vectors l = (l.left ≤ length l.rest) × (list_all is_name_byte (take l.count l.bytes) ≡ list_all is_name_byte (take l.left l.rest))

abbrev pub decreases-vectors : goal.decreases-vectors
decreases-vectors l = l.left
