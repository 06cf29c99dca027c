use Rattle.std.proofs.Common.{◌≡◌, ℕ, ◌+◌, ◌*◌, ◌^◌, ◌<◌, ◌++◌, length, take, get_or}
use Rattle.sn_bytes.specs.Bytes.{numbers_bytes}
use Rattle.sn_bytes.proofs.reader.Reader.u32s.Given as goal

abbrev pub invariant-loop-number : goal.invariant-loop-number
invariant-loop-number l = record {
  left : length l.self + 4 * l.number-index ≡ length l.initial.self;
  read : l.initial.self ≡ numbers_bytes 4 (take l.number-index l.numbers) ++ l.self;
  fits : (k : ℕ) → k < l.number-index → get_or l.numbers k 0 < 2 ^ 32;
}
