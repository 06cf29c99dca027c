use Rattle.sn_layout_node.specs.DirectoryEntry.{links_left}
use Rattle.sn_census.proofs.CountLemmas.{IsPart}
use Rattle.sn_census.proofs.naming.count_entries.Given as goal

abbrev pub invariant-loop-entry : goal.invariant-loop-entry
invariant-loop-entry l = IsPart l.directory (links_left l.initial.entry-iterator) (links_left l.entry-iterator) l.initial.census l.census
