-- What a table of numbers records.
use Rattle.std.specs.Prelude.{◌≡◌, ℕ, Bool, is_some}
use Rattle.std.specs.FinMap as map
use Rattle.sn_model.specs.Tree.{Tree}
use Rattle.sn_number_table.specs.declared.table.NumberTable.{NumberTable}
use Rattle.sn_number_table.specs.Marked.{mark_at}
use Rattle.sn_number_table.specs.Marks.{has_node, is_kept, is_since}

-- whether a node has the number
abbrev pub is_taken_in : NumberTable → ℕ → Bool
is_taken_in table number = has_node (mark_at table.marks number)

-- the numbers that are kept back
abbrev pub kept_of : NumberTable → ℕ → Bool
kept_of table number = is_kept (mark_at table.marks number)

-- those of them that are kept back since the consistency point in progress began, or the durable root's where none is
abbrev pub since_of : NumberTable → ℕ → Bool
since_of table number = is_since (mark_at table.marks number)

-- Exactly those numbers are taken that have a node in the tree.
abbrev pub TellsNumbers : Tree → NumberTable → Type 0
TellsNumbers tree table = (number : ℕ) → is_taken_in table number ≡ is_some (map.get tree.nodes number)
