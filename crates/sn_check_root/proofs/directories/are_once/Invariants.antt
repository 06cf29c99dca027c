use Rattle.std.proofs.Common.{◌≢◌, ℕ, ◌+◌, ◌<◌}
use Rattle.std.specs.Prelude.{slice_index_or}
use Rattle.sn_dir.specs.declared.listings.ListedName.{ListedName}
use Rattle.sn_check_root.proofs.directories.are_once.Given as goal

abbrev pub invariant-loop-i : goal.invariant-loop-i
invariant-loop-i l = record {
  apart : (k : ℕ) (d : ListedName) → k + 1 < l.i → (slice_index_or l.names (k + 1) d).name ≢ (slice_index_or l.names k d).name;
}
