use Rattle.std.proofs.Common.{◌≡◌, ◌-◌, ◌≤◌, ◌++◌}
use Rattle.sn_file_bytes.specs.Blocks.{values_from}
use Rattle.sn_file_bytes.specs.Bytes.{byte_of}
use Rattle.sn_file_bytes.proofs.blocks.Blocks.read.Given as goal

-- the bytes up to here are read
abbrev pub invariant-loop-at : goal.invariant-loop-at
invariant-loop-at l = record {
  bytes : l.out.items ≡ l.fn.out.items ++ values_from (byte_of l.self) l.offset (l.at - l.offset);
  low : l.offset ≤ l.at;
  high : l.at ≤ l.end;
}

abbrev pub decreases-loop-at : goal.decreases-loop-at
decreases-loop-at l = l.end - l.at
