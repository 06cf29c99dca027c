use Rattle.std.proofs.Common.{◌≡◌, ◌≤◌, ◌<◌, ℕ, get_or, All}
use Rattle.sn_bytes.proofs.reader.are_all_zero.Given as goal

abbrev pub invariant-loop-byte : goal.invariant-loop-byte
invariant-loop-byte l = record {
  below : (k : ℕ) → k < l.byte-index → get_or l.bytes k 0 ≤ l.largest;
  least : All (λ byte. byte ≡ 0) l.bytes → l.largest ≡ 0;
}
