use Rattle.std.proofs.Common.{◌≡◌, ◌≤◌, ◌+◌, ◌*◌, ◌++◌, ℕ, take, drop}
use Rattle.sn_bytes.specs.Bytes.{numbers_bytes}
use Rattle.sn_bytes.proofs.writer.put_u32s.Given as goal

abbrev pub invariant-loop-number : goal.invariant-loop-number
invariant-loop-number l = record {
  next : l.next ≡ l.at + 4 * l.number-index;
  front : take l.next l.block ≡ take l.at l.initial.block ++ numbers_bytes 4 (take l.number-index l.numbers);
  back : (n : ℕ) → l.next ≤ n → drop n l.block ≡ drop n l.initial.block;
}
