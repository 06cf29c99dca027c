use Rattle.std.proofs.Common.{◌<◌, ◌≤◌, ℕ, vec_len}
use Rattle.std.specs.List.{Contains}
use Rattle.std.proofs.Common.{slice_index}
use Rattle.sn_names.specs.Prints.{entry_at}
use Rattle.sn_names.specs.Index.{entries_of}
use Rattle.sn_names.proofs.index.NameIndex.next_wanted.Given as goal

abbrev pub invariant-loop-print : goal.invariant-loop-print
invariant-loop-print l = record {
  after : l.from ≤ l.until;
  end : l.until ≤ vec_len l.self.numbers;
  none : (k : ℕ) → k < l.print-index → (i : ℕ) → l.from ≤ i → i < l.until
      → Contains (entries_of l.self) (entry_at (slice_index l.prints k) i) → ⊥;
}
