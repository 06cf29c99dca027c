-- The names that an iterator over a directory block gives.
use Rattle.std.specs.Prelude.{List}
use Rattle.sn_layout_node.specs.declared.directory.DirectoryEntry.{DirectoryEntry}
use Rattle.sn_layout_node.specs.declared.directory.Entries.{Entries}
use Rattle.sn_layout_node.specs.Directory.{Link}

-- an entry without the place of its name in memory
abbrev pub link_of : DirectoryEntry → Link
link_of entry = record { number = entry.number; name = entry.name.now }

-- the names that are still to come
abbrev pub links_left : Entries → List Link
links_left entries = entries
