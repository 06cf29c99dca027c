use Rattle.std.proofs.Common.{ℕ, ◌<◌, None, slice_index_or}
use Rattle.sn_desc.specs.OpenFiles.{IsOpenIn, files_of}
use Rattle.sn_desc.proofs.open_files.OpenFiles.has_open.Given as goal

-- none so far
abbrev pub invariant-loop-seat : goal.invariant-loop-seat
invariant-loop-seat l = (k : ℕ) → k < l.seat → IsOpenIn l.home (slice_index_or (files_of l.self) k None) → ⊥
