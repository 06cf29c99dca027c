use Rattle.std.proofs.Common.{◌≡◌, ℕ, ◌≤◌, ◌<◌, true}
use Rattle.sn_file_bytes.specs.Bytes.{byte_of, has_block}
use Rattle.sn_file_bytes.proofs.blocks.Blocks.fill.Given as goal

-- the holes so far are filled
abbrev pub invariant-loop-index : goal.invariant-loop-index
invariant-loop-index l = record {
  same : (k : ℕ) → byte_of l.self k ≡ byte_of l.fn.self k;
  there : (i : ℕ) → l.first ≤ i → i < l.index → has_block l.self i ≡ true;
  below : (i : ℕ) → i < l.first → has_block l.self i ≡ has_block l.fn.self i;
}
