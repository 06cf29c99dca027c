-- A name that was copied out of a directory.
use Rattle.std.specs.Cmp.Lexicographic.{slice_cmp}
use Rattle.std.specs.Ordering.{nat_cmp, ordering_then}
use Rattle.std.specs.declared.cmp.Ordering.{Ordering}
use Rattle.sn_layout_node.specs.Directory.{Link}
use Rattle.sn_dir.specs.declared.listings.ListedName.{ListedName}

-- the name as it is in the directory
abbrev pub link_of : ListedName → Link
link_of listed = record { number = listed.number; name = listed.name }

-- by the bytes of the names, and where a name occurs twice by number
abbrev pub listed_cmp : ListedName → ListedName → Ordering
listed_cmp a b = ordering_then (slice_cmp nat_cmp a.name b.name) (nat_cmp a.number b.number)
