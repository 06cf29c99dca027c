use Rattle.std.proofs.Common.{◌≡◌, ℕ, ◌+◌, ◌-◌, ◌*◌, ◌/◌, ◌≤◌, ◌<◌, true, length, take}
use Rattle.sn_file_bytes.specs.Blocks.{over}
use Rattle.sn_file_bytes.specs.Bytes.{byte_of, has_block}
use Rattle.sn_file_bytes.proofs.blocks.Blocks.put.Given as goal

-- so many bytes are put
abbrev pub invariant-loop-done : goal.invariant-loop-done
invariant-loop-done l = record {
  bytes : (k : ℕ) → byte_of l.self k ≡ over (byte_of l.fn.self) l.offset (take l.done l.bytes) k;
  there : (i : ℕ) → l.offset / 4096 ≤ i → i * 4096 < l.offset + length l.bytes → has_block l.self i ≡ true;
  few : l.done ≤ length l.bytes;
}

abbrev pub decreases-loop-done : goal.decreases-loop-done
decreases-loop-done l = length l.bytes - l.done
