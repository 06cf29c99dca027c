use Rattle.std.proofs.Common.{◌≡◌, ◌+◌, ◌≤◌, ◌++◌, true, List, ℕ, length}
use Rattle.std.specs.List.{list_all}
use Rattle.sn_limits.specs.Names.{is_name_byte}
use Rattle.sn_host_names.specs.Escapes.{image_name, is_host_byte}
use Rattle.sn_host_names.proofs.names.to_host.Given as goal

abbrev pub invariant-loop-byte : goal.invariant-loop-byte
invariant-loop-byte l = record {
  read : (host : List ℕ) → image_name host ≡ l.rest → image_name (l.host.items ++ host) ≡ l.name;
  bytes : list_all is_host_byte l.host.items ≡ true;
  left : list_all is_name_byte l.rest ≡ true;
  short : length l.host.items + length l.rest ≤ length l.name;
}

abbrev pub decreases-loop-byte : goal.decreases-loop-byte
decreases-loop-byte l = length l.rest
