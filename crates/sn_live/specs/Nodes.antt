-- What a change does to nodes and to files without names.
use Rattle.std.specs.Prelude.{◌≡◌, ℕ, ◌+◌, ◌-◌, ◌^◌, Bool, not, ◌&&◌, ◌||◌, ◌==◌, min, Option, None, Some, if◌then◌else◌}
use Rattle.std.specs.FinMap as map
use Rattle.sn_limits.specs.declared.kind.Kind.{Kind}
use Rattle.sn_limits.specs.declared.kind.Kind.TheVariants.{File, Directory}
use Rattle.sn_live.specs.declared.nodes.NodeMoves.{NodeMoves}
use Rattle.sn_live.specs.declared.nodes.NodeMoves.TheVariants.{Stay, Come, Go, Name, Unname}
use Rattle.sn_model.specs.declared.change.Change.{Change}
use Rattle.sn_model.specs.declared.change.Change.TheVariants.{Make, AddLink, Remove, Rename}
use Rattle.sn_model.specs.declared.link.Link.{Link}
use Rattle.sn_model.specs.Changes.{put_node, same_number, take_node}
use Rattle.sn_model.specs.Settling.{is_nameless}
use Rattle.sn_model.specs.Tree.{Node, Tree, link_count, link_to, names_for}
use Rattle.sn_number_table.specs.Table.{TellsNumbers, kept_of, since_of}
use Rattle.sn_number_table.specs.declared.table.NumberTable.{NumberTable}

-- A directory is removed with its name. A file stays, without names if it has no other one.
abbrev pub losing_of : ℕ → Kind → ℕ → NodeMoves
losing_of number File links = if links == 1 then Unname number else Stay
losing_of number Directory links = Go number

abbrev pub losing_node : Tree → ℕ → Option Node → NodeMoves
losing_node tree number None = Stay
losing_node tree number (Some node) = losing_of number node.kind (link_count node.kind (names_for tree number))

-- what loses a name, if anything does
abbrev pub losing : Tree → Option ℕ → NodeMoves
losing tree None = Stay
losing tree (Some number) = losing_node tree number (map.get tree.nodes number)

-- Where both names are of one object, nothing changes; else what has the new name loses it.
abbrev pub exchanging : Tree → Option ℕ → Option ℕ → NodeMoves
exchanging tree None target = Stay
exchanging tree (Some number) target = if same_number number target then Stay else losing tree target

abbrev pub renaming : Tree → Link → Link → NodeMoves
renaming tree old new = exchanging tree (map.get tree.links old) (map.get tree.links new)

abbrev pub linking : Tree → ℕ → NodeMoves
linking tree number = if is_nameless tree number (map.get tree.nodes number) then Name number else Stay

abbrev pub making : Tree → ℕ → NodeMoves
making tree number = Come number (is_nameless tree number (map.get tree.nodes number))

abbrev pub node_moves_of : Tree → Change → NodeMoves
node_moves_of tree (Make directory name number kind o) = making tree number
node_moves_of tree (AddLink directory name number) = linking tree number
node_moves_of tree (Remove directory name) = losing tree (map.get tree.links (link_to directory name))
node_moves_of tree (Rename old_directory old_name new_directory new_name) = renaming tree (link_to old_directory old_name) (link_to new_directory new_name)
node_moves_of tree change = Stay

-- A node has the number now. Where that was kept back, no number is any more.
pub record NotesMade (number : ℕ) (old new : NumberTable) : Type 0 where
  pub tells : (tree : Tree) (node : Node) → TellsNumbers tree old → TellsNumbers (put_node tree number node) new
  pub kept : (n : ℕ) → kept_of new n ≡ (kept_of old n && not (kept_of old number))
  pub since : (n : ℕ) → since_of new n ≡ (since_of old n && not (kept_of old number))

-- No other number is kept back than before.
pub record KeepsBackAlike (old new : NumberTable) : Type 0 where
  pub kept : (n : ℕ) → kept_of new n ≡ kept_of old n
  pub since : (n : ℕ) → since_of new n ≡ since_of old n

-- The node of the number is gone, and the number can be given out.
pub record NotesLost (number : ℕ) (old new : NumberTable) : Type 0 where
  pub tells : (tree : Tree) → TellsNumbers tree old → TellsNumbers (take_node tree number) new
  pub alike : KeepsBackAlike old new

-- what becomes of the table of numbers
abbrev pub NotesNodes : NodeMoves → NumberTable → NumberTable → Type 0
NotesNodes Stay old new = new ≡ old
NotesNodes (Come number replaces) old new = NotesMade number old new
NotesNodes (Go number) old new = NotesLost number old new
NotesNodes (Name number) old new = new ≡ old
NotesNodes (Unname number) old new = new ≡ old

-- and of the count of files without names
abbrev pub nameless_after : ℕ → NodeMoves → ℕ
nameless_after nameless Stay = nameless
nameless_after nameless (Come number replaces) = if replaces then nameless - 1 else nameless
nameless_after nameless (Go number) = nameless
nameless_after nameless (Name number) = nameless - 1
nameless_after nameless (Unname number) = min (nameless + 1) (2 ^ 32 - 1)

-- and of the list of them
abbrev pub listed_after : NodeMoves → (ℕ → Bool) → ℕ → Bool
listed_after Stay listed n = listed n
listed_after (Come number replaces) listed n = not (n == number) && listed n
listed_after (Go number) listed n = listed n
listed_after (Name number) listed n = not (n == number) && listed n
listed_after (Unname number) listed n = n == number || listed n

-- the file that loses its last name, if one does
abbrev pub lost_of : NodeMoves → Option ℕ
lost_of (Unname number) = Some number
lost_of move = None
