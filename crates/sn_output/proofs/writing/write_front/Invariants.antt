use Rattle.std.proofs.Common.{◌≡◌, ℕ, ◌≤◌, length, take, drop}
use Rattle.std.specs.Io.KnownBytes.{Appends}
use Rattle.sn_output.proofs.writing.write_front.Given as goal

-- so many bytes are written, and the others are left
abbrev pub invariant-loop-turn : goal.invariant-loop-turn
invariant-loop-turn g l = (n : ℕ) × (n ≤ length l.text) × Appends (g.W.Write.contents l.fn.out) (g.W.Write.contents l.out) (take n l.text) × (l.rest ≡ drop n l.text)
