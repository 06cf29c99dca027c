-- The tests that changes are made of, in terms of what is read of a tree.
use Rattle.std.specs.Prelude.{ℕ, ◌+◌, ◌-◌, ◌==◌, Bool, true, false, not, ◌&&◌, nat_lt, Option, None, Some, is_none, is_some, if◌then◌else◌}
use Rattle.std.specs.Option.{option_map}
use Rattle.std.specs.FinMap as map
use Rattle.sn_limits.specs.declared.kind.Kind.{Kind}
use Rattle.sn_limits.specs.declared.limits.Limits.{Limits}
use Rattle.sn_limits.specs.Names.{is_name}
use Rattle.sn_walk.specs.Views.{is_directory, is_hidden_name}
use Rattle.sn_model.specs.declared.link.Link.{Link}
use Rattle.sn_model.specs.Chains.{◌>>=◌}
use Rattle.sn_model.specs.Changes.{directory_at, file_at, same_kind}
use Rattle.sn_model.specs.Seen.{is_below}
use Rattle.sn_model.specs.Tree.{Tree, names_in, names_for}
use Rattle.sn_overlay.specs.declared.node.SeenNode.{SeenNode}
use Rattle.sn_overlay.specs.Seen.{seen_node}
use Rattle.sn_applies.specs.declared.reads.Standing.{Standing}

-- what is asked of a node
abbrev pub standing_of : Tree → ℕ → Option Standing
standing_of tree number = option_map (λ (node : SeenNode). record { kind = node.kind; links = node.links }) (seen_node tree number)

-- how many names a file has
abbrev pub file_names : Tree → ℕ → Option ℕ
file_names tree number = file_at tree number >>= (λ _. Some (names_for tree number))

-- a name that a directory can have
abbrev pub is_name_in : Link → Bool
is_name_in link = is_name link.name && not (is_hidden_name link.directory link.name)

-- A directory may get one more name, where so many of its names are removed first, and what has so many names may get one more.
abbrev pub has_room : Limits → Tree → ℕ → ℕ → ℕ → Bool
has_room limits tree directory leaving links = is_some (directory_at tree directory) && (nat_lt (names_in tree directory - leaving) limits.names && nat_lt links limits.links)

-- A name can be given to what has so many names: its directory can have it, doesn't yet, and both have room.
abbrev pub can_get : Limits → Tree → Link → ℕ → Bool
can_get limits tree link links = is_name_in link && (is_none (map.get tree.links link) && has_room limits tree link.directory 0 links)

-- the kind of what can lose its name: a file, or a directory without names
abbrev pub losing_kind : Kind → ℕ → Option Kind
losing_kind kind names = if is_directory kind && nat_lt 0 names then None else Some kind

abbrev pub losing : Tree → ℕ → Option Kind
losing tree number = map.get tree.nodes number >>= (λ node. losing_kind node.kind (names_in tree number))

-- what has a name that another node gets: nothing, or what can lose it and is of the node's kind
abbrev pub is_kind : Kind → Option Kind → Bool
is_kind kind None = false
is_kind kind (Some other) = same_kind kind other

abbrev pub gives_way : Tree → Kind → Option ℕ → Bool
gives_way tree kind None = true
gives_way tree kind (Some number) = is_kind kind (losing tree number)

-- a directory is moved into itself
abbrev pub lies_in_itself : Tree → Kind → ℕ → ℕ → Bool
lies_in_itself tree kind number directory = is_directory kind && is_below tree number directory

-- how many names of the new directory are removed when a name is moved: the old one if it is there, and that of what is replaced
abbrev pub leaving : ℕ → ℕ → Option ℕ → ℕ
leaving from to target = (if is_some target then 1 else 0) + (if from == to then 1 else 0)

-- A node can be moved from a directory to a name, which has a number already or none.
abbrev pub can_move : Limits → Tree → ℕ → Link → ℕ → Standing → Option ℕ → Bool
can_move limits tree from new number standing target = is_name_in new && (gives_way tree standing.kind target && (not (lies_in_itself tree standing.kind number new.directory) && has_room limits tree new.directory (leaving from new.directory target) (standing.links - 1)))
