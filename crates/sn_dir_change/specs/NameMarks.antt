-- Marks of the names of a block.
use Rattle.std.specs.Prelude.{◌≡◌, ℕ, ◌+◌, ◌*◌, ◌%◌, Bool, true, false, List, fold, slice_index_or}
use Rattle.std.specs.List.{AllByRecursion}
use Rattle.sn_layout_node.specs.Directory.{Link}

-- which of the 4,096 marks is that of a name
unfoldable pub hash_of : List ℕ → ℕ
hash_of name = fold (λ hash byte. (31 * hash + byte) % 4096) 0 name

-- each of these names has its mark
abbrev pub AreMarked : List Bool → List Link → Type 0
AreMarked marks links = AllByRecursion (λ (link : Link). slice_index_or marks (hash_of link.name) false ≡ true) links
