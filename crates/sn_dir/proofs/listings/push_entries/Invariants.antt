use Rattle.std.proofs.Common.{◌≡◌, ◌++◌, map}
use Rattle.sn_layout_node.specs.DirectoryEntry.{links_left}
use Rattle.sn_dir.specs.Listed.{link_of}
use Rattle.sn_dir.proofs.listings.push_entries.Given as goal

abbrev pub invariant-loop-entry : goal.invariant-loop-entry
invariant-loop-entry l =
    map link_of l.names.items ++ links_left l.entry-iterator ≡ map link_of l.initial.names.items ++ links_left l.initial.entry-iterator
