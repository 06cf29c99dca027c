use Rattle.std.proofs.Common.{◌≡◌, ℕ, replicate}
use Rattle.sn_device.proofs.memory.MemDevice.new.Given as goal

abbrev pub invariant-loop-count : goal.invariant-loop-count
invariant-loop-count l = l.zeros.items ≡ replicate l._count (replicate {A = ℕ} 512 0)
