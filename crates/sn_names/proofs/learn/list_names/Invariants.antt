use Rattle.std.proofs.Common.{◌⊎◌}
use Rattle.std.specs.List.{Contains}
use Rattle.sn_layout_node.specs.Directory.{Link}
use Rattle.sn_layout_node.specs.DirectoryEntry.{links_left}
use Rattle.sn_names.specs.Prints.{entry_for}
use Rattle.sn_names.specs.Ordered.{numbers_of}
use Rattle.sn_names.specs.Search.{HasAll}
use Rattle.sn_names.proofs.learn.list_names.Given as goal

abbrev pub invariant-loop-entry : goal.invariant-loop-entry
invariant-loop-entry l = record {
  kept : HasAll (numbers_of l.initial.entries) (numbers_of l.entries);
  listed : (link : Link) → Contains l.names link → Contains (links_left l.entry-iterator) link ⊎ Contains (numbers_of l.entries) (entry_for link.name l.i);
}
