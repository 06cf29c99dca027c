-- The names of a tree, laid out by directory.
use Rattle.std.specs.Prelude.{ℕ, List, Option, None, Some, map}
use Rattle.std.specs.List.{flat_map}
use Rattle.std.specs.Ordering.{nat_cmp}
use Rattle.std.specs.Cmp.Lexicographic.{slice_cmp}
use Rattle.std.specs.FinMap.{FinMap, empty, entries, from_entries}
use Rattle.sn_model.specs.declared.link.Link.{Link}
use Rattle.sn_model.specs.Tree.{link_cmp, link_to}

-- the numbers of a directory's names
abbrev pub Named : Type 0
Named = FinMap (slice_cmp nat_cmp) ℕ

-- a directory's names as those of a tree
abbrev pub links_from : ℕ × Named → List (Link × ℕ)
links_from directory = map (λ name. (link_to directory.0 name.0, name.1)) (entries directory.1)

-- the names of all directories
abbrev pub all_links : FinMap nat_cmp Named → FinMap link_cmp ℕ
all_links directories = from_entries (flat_map links_from (entries directories))

-- the names that a directory has; none where there are no names of it
abbrev pub names_at : Option Named → Named
names_at None = empty
names_at (Some names) = names
