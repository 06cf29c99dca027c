use Rattle.std.proofs.Common.{◌≡◌, ℕ, ◌+◌, ◌<◌, slice_index, take}
use Rattle.std.specs.Prelude.{All}
use Rattle.sn_inode.specs.Changes.{IsChange, numbers_in}
use Rattle.sn_inode.proofs.premises.are_changes.Given as goal

abbrev pub invariant-loop-change : goal.invariant-loop-change
invariant-loop-change l = record {
  each : All (IsChange l.limits) (take l.change-index l.changes);
  rise : (j : ℕ) → j + 1 < l.change-index → slice_index (numbers_in l.changes) j < slice_index (numbers_in l.changes) (j + 1);
  first : l.change-index ≡ 0 → l.least ≡ 0;
  next : (j : ℕ) → j + 1 ≡ l.change-index → l.least ≡ slice_index (numbers_in l.changes) j + 1;
}
