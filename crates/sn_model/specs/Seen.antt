-- What calls are decided over, and what their decisions have in common.
use Rattle.std.specs.Prelude.{ℕ, ◌==◌, ◌&&◌, Bool, nat_le, is_some, List, [], filter, map as list_map, Option, Result, Ok, Err, unwrap_or, if◌then◌else◌}
use Rattle.std.specs.Option.{option_map_or}
use Rattle.std.specs.FinMap as map
use Rattle.sn_limits.specs.declared.limits.Limits.{Limits}
use Rattle.sn_walk.specs.declared.object.Object.{Object}
use Rattle.sn_walk.specs.declared.object.Object.TheVariants as object
use Rattle.sn_walk.specs.declared.walking.Walked.{Walked}
use Rattle.sn_walk.specs.declared.walking.Walked.TheVariants.{Root, Name}
use Rattle.sn_walk.specs.Paths.{last_of}
use Rattle.sn_walk.specs.Views.{ViewedTrees}
use Rattle.sn_model.specs.declared.reply.Errno.{Errno}
use Rattle.sn_model.specs.declared.reply.Errno.TheVariants.{Elimit}
use Rattle.sn_model.specs.declared.reply.Refusal.{Refusal}
use Rattle.sn_model.specs.Changes.{directory_at, is_at_or_below}
use Rattle.sn_model.specs.Settling.{nameless_if}
use Rattle.sn_model.specs.Tests.{plain, has_room}
use Rattle.sn_model.specs.Tree.{Tree, names_in}
use Rattle.sn_model.specs.World.{Trees, World, tree_in, trees_of, viewed_trees}

-- a directory may get one more name, of a node that is there
abbrev pub has_room_for_name : Limits → Tree → ℕ → Result (Unit {0}) Refusal
has_room_for_name limits tree directory = if nat_le limits.names (names_in tree directory) then Err (plain Elimit) else Ok tt

-- the names of a directory of a tree, in the order of their bytes
abbrev pub names_of : Tree → ℕ → List (List ℕ)
names_of tree directory = list_map (λ e. e.0.name) (filter (λ e. e.0.directory == directory) (map.entries tree.links))

abbrev pub names_if : Option Tree → ℕ → List (List ℕ)
names_if found directory = option_map_or (λ tree. names_of tree directory) found []

-- the names that a directory is listed with; the directory of snapshots has those of the snapshots, and the live root doesn't show it
abbrev pub listed : Trees → Object → List (List ℕ)
listed trees (object.Node home number) = names_if (tree_in trees home) number
listed trees object.Snapshots = map.keys trees.frozen

-- whether a number is a directory's, which is another one or is below it
abbrev pub is_below : Tree → ℕ → ℕ → Bool
is_below tree top directory = is_some (directory_at tree directory) && is_at_or_below tree top directory

-- the names of the trees as calls ask for them: whether a directory of the live tree has none, and may get one more, of a node that is there; whether a directory of it is another one or is below it; the names that a directory is listed with; and how many files of a snapshot's tree have none
pub record SeenNames : Type 0 where
  pub is_empty : ℕ → Bool
  pub room : ℕ → Result (Unit {0}) Refusal
  pub is_below : ℕ → ℕ → Bool
  pub listed : Object → List (List ℕ)
  pub nameless : List ℕ → ℕ

abbrev pub seen_names : Limits → Trees → SeenNames
seen_names limits trees = record {
  is_empty = λ directory. names_in trees.live directory == 0;
  room = has_room_for_name limits trees.live;
  is_below = is_below trees.live;
  listed = listed trees;
  nameless = λ name. nameless_if (map.get trees.frozen name);
}

-- the trees, their names, and whether a directory of the live one may get one more name, of a new node
pub record Seen : Type 0 where
  pub trees : ViewedTrees
  pub room : ℕ → Result (Unit {0}) Refusal
  pub names : SeenNames

abbrev pub seen : Limits → World → Seen
seen limits world = record { trees = viewed_trees (trees_of world); room = has_room limits world.live; names = seen_names limits (trees_of world) }

-- the last name of a path that isn't `/`
abbrev pub last_name : List (List ℕ) → List ℕ
last_name names = unwrap_or (last_of names) []

-- the directory that has the last name, and its place; `/` is in none
abbrev pub parent_of : Errno → Walked → Result (Object × ℕ) Refusal
parent_of without Root = Err (plain without)
parent_of without (Name directory place last) = Ok (directory, place)
