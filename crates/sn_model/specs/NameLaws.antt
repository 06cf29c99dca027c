-- What the calls on names do, said as a user of a file system would say it.
use Rattle.std.specs.Prelude.{◌≡◌, ◌≢◌, ◌⊎◌, ℕ, ◌<◌, List, [], ◌∷◌, Option, None, Some, Ok, Bool, true, false, is_some}
use Rattle.std.specs.List.{AllByRecursion, list_any}
use Rattle.std.specs.Ordering.{nat_cmp, eq_by_cmp}
use Rattle.std.specs.Cmp.Lexicographic.{slice_cmp}
use Rattle.std.specs.declared.cmp.Ordering.TheVariants.{Less}
use Rattle.std.specs.FinMap as map
use Rattle.sn_limits.specs.declared.kind.Kind.TheVariants.{File, Directory}
use Rattle.sn_limits.specs.declared.limits.Limits.{Limits}
use Rattle.sn_walk.specs.declared.object.Home.TheVariants.{Live}
use Rattle.sn_walk.specs.declared.object.Object.{Object}
use Rattle.sn_walk.specs.declared.object.Object.TheVariants as object
use Rattle.sn_walk.specs.Objects.{root}
use Rattle.sn_model.specs.declared.call.Call.{Call}
use Rattle.sn_model.specs.declared.call.Call.TheVariants as call
use Rattle.sn_model.specs.declared.change.Change.TheVariants.{AddLink, Remove, Rename}
use Rattle.sn_model.specs.declared.link.Link.{Link}
use Rattle.sn_model.specs.declared.reply.Reply.{Reply}
use Rattle.sn_model.specs.declared.reply.Reply.TheVariants as reply
use Rattle.sn_model.specs.declared.session.Session.{Session}
use Rattle.sn_model.specs.Changes.{apply}
use Rattle.sn_model.specs.Denials.{led_to}
use Rattle.sn_model.specs.NameCalls.{link_outcome, readdir_outcome, rename_outcome, rmdir_outcome}
use Rattle.sn_model.specs.NameTree.{HasKind}
use Rattle.sn_model.specs.Outcomes.{Outcome, Does, tells}
use Rattle.sn_model.specs.Seen.{last_name, seen}
use Rattle.sn_model.specs.Steps.{Step}
use Rattle.sn_model.specs.Tests.{path_argument}
use Rattle.sn_model.specs.Worlds.{IsWorld}
use Rattle.sn_model.specs.Tree.{Tree, link_to, names_in}
use Rattle.sn_model.specs.World.{Trees, World, tree_in, trees_of, viewed_trees}

-- ---- readdir

-- each name is below all that follow it, by their bytes
abbrev pub Rises : List (List ℕ) → Type 0
Rises [] = Unit {0}
Rises (name ∷ names) = AllByRecursion (λ later. slice_cmp nat_cmp name later ≡ Less) names × Rises names

-- a name is one of these
abbrev pub is_one_of : List (List ℕ) → List ℕ → Bool
is_one_of names name = list_any (eq_by_cmp (slice_cmp nat_cmp) name) names

-- a directory of a tree has a name, or the directory of snapshots has that of one
abbrev pub has_name_if : Option Tree → ℕ → List ℕ → Bool
has_name_if None directory name = false
has_name_if (Some tree) directory name = is_some (map.get tree.links (link_to directory name))

abbrev pub has_name : Trees → Object → List ℕ → Bool
has_name trees (object.Node home number) name = has_name_if (tree_in trees home) number name
has_name trees object.Snapshots name = map.contains_key trees.frozen name

-- The path leads to a directory, and the reply has the names that it has, in their order, and no others.
pub record Lists (world : World) (names : List (List ℕ)) (o : Outcome) : Type 0 where
  pub directory : Object
  pub led : led_to (viewed_trees (trees_of world)) root names ≡ Some directory
  pub told : List (List ℕ)
  pub answers : o ≡ tells (reply.Names told)
  pub rising : Rises told
  pub exact : (name : List ℕ) → is_one_of told name ≡ has_name (trees_of world) directory name

abbrev pub ReaddirListsTheNames : Type 0
ReaddirListsTheNames = (limits : Limits) (world : World) (s : Session) (names : List (List ℕ)) (o : Outcome) → readdir_outcome (seen limits world) s names ≡ Ok o → Lists world names o

-- ---- rmdir

-- The change can be applied. An empty directory goes with its name, and every other name and node stays.
pub record TakesDirectory (limits : Limits) (old : Tree) (o : Outcome) (name : List ℕ) : Type 0 where
  pub directory : ℕ
  pub number : ℕ
  pub named : map.get old.links (link_to directory name) ≡ Some number
  pub kind : HasKind old number Directory
  pub empty : names_in old number ≡ 0
  pub change : o.change ≡ Does (Remove directory name)
  pub new : Tree
  pub applied : apply limits (Remove directory name) old ≡ Some new
  pub no_name : map.get new.links (link_to directory name) ≡ None
  pub no_node : map.get new.nodes number ≡ None
  pub names : (other : Link) → other ≢ link_to directory name → map.get new.links other ≡ map.get old.links other
  pub nodes : (other : ℕ) → other ≢ number → map.get new.nodes other ≡ map.get old.nodes other

abbrev pub RmdirTakesAnEmptyDirectory : Type 0
RmdirTakesAnEmptyDirectory = (limits : Limits) (world : World) (s : Session) (names : List (List ℕ)) (o : Outcome) → rmdir_outcome limits (seen limits world) s names ≡ Ok o → TakesDirectory limits world.live o (last_name names)

-- ---- link

-- The change can be applied. A file has one more name, and every other name, and each node, stays.
pub record GivesName (limits : Limits) (old : Tree) (o : Outcome) (name : List ℕ) : Type 0 where
  pub directory : ℕ
  pub number : ℕ
  pub kind : HasKind old number File
  pub absent : map.get old.links (link_to directory name) ≡ None
  pub change : o.change ≡ Does (AddLink directory name number)
  pub new : Tree
  pub applied : apply limits (AddLink directory name number) old ≡ Some new
  pub named : map.get new.links (link_to directory name) ≡ Some number
  pub names : (other : Link) → other ≢ link_to directory name → map.get new.links other ≡ map.get old.links other
  pub nodes : new.nodes ≡ old.nodes

abbrev pub LinkGivesOneMoreName : Type 0
LinkGivesOneMoreName = (limits : Limits) (world : World) (s : Session) (names others : List (List ℕ)) (path : List ℕ) (o : Outcome) → path_argument path ≡ Ok others → link_outcome limits (seen limits world) s names others ≡ Ok o → GivesName limits world.live o (last_name others)

-- ---- rename

-- The change can be applied. What had the old name has the new one; every other name stays, and each node but that which had the new name.
pub record MovesName (limits : Limits) (old : Tree) (o : Outcome) (from to : List ℕ) : Type 0 where
  pub old_directory : ℕ
  pub new_directory : ℕ
  pub number : ℕ
  pub named : map.get old.links (link_to old_directory from) ≡ Some number
  pub change : o.change ≡ Does (Rename old_directory from new_directory to)
  pub new : Tree
  pub applied : apply limits (Rename old_directory from new_directory to) old ≡ Some new
  pub gone : map.get new.links (link_to old_directory from) ≡ None
  pub moved : map.get new.links (link_to new_directory to) ≡ Some number
  pub names : (other : Link) → other ≢ link_to old_directory from → other ≢ link_to new_directory to → map.get new.links other ≡ map.get old.links other
  pub nodes : (other : ℕ) → map.get old.links (link_to new_directory to) ≢ Some other → map.get new.nodes other ≡ map.get old.nodes other

-- both paths lead to one live thing
abbrev pub IsOneThing : World → List (List ℕ) → List (List ℕ) → Type 0
IsOneThing world names others = (number : ℕ) × (led_to (viewed_trees (trees_of world)) root names ≡ Some (object.Node Live number)) × (led_to (viewed_trees (trees_of world)) root others ≡ Some (object.Node Live number))

-- Both names are of one thing, and nothing is done, or the name is moved.
abbrev pub RenameMovesTheName : Type 0
RenameMovesTheName = (limits : Limits) (world : World) (s : Session) (names others : List (List ℕ)) (path : List ℕ) (o : Outcome) → 0 < limits.links → IsWorld limits world → path_argument path ≡ Ok others → rename_outcome limits (seen limits world) s names others ≡ Ok o
    → ((o ≡ tells reply.Done) × IsOneThing world names others) ⊎ MovesName limits world.live o (last_name names) (last_name others)

-- ---- the other calls

-- the calls that change which names are there
abbrev pub changes_names : Call → Bool
changes_names (call.Mkdir path mode) = true
changes_names (call.Rmdir path) = true
changes_names (call.Unlink path) = true
changes_names (call.Link old new) = true
changes_names (call.Rename old new) = true
changes_names (call.Open path flags mode) = true
changes_names (call.SnapRestore name) = true
changes_names c = false

-- Whatever another call answers, each name denotes what it denoted, and there is no other.
abbrev pub FewCallsChangeNames : Type 0
FewCallsChangeNames = (limits : Limits) (old new : World) (session : ℕ) (c : Call) (answer : Reply) → changes_names c ≡ false → Step limits old session c answer new → new.live.links ≡ old.live.links
