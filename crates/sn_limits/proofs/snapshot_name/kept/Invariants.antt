use Rattle.std.proofs.Common.{◌≡◌, take}
use Rattle.sn_limits.proofs.snapshot_name.kept.Given as goal

abbrev pub invariant-loop-byte : goal.invariant-loop-byte
invariant-loop-byte l = l.bytes.items ≡ take l.byte-index l.name
