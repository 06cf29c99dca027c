use Rattle.std.proofs.Common.{◌≡◌, length}
use Rattle.sn_layout_node.specs.DirectoryEntry.{links_left}
use Rattle.sn_dir_change.proofs.MarkLemmas.{AreMarkedBut}
use Rattle.sn_dir_change.proofs.name_marks.NameMarks.of.Given as goal

-- those so far have their marks
abbrev pub invariant-loop-entry : goal.invariant-loop-entry
invariant-loop-entry l = record {
  count : length l.marks ≡ 4096;
  marked : AreMarkedBut l.marks (links_left l.initial.entry-iterator) (links_left l.entry-iterator);
}
