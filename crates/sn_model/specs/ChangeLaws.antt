-- What follows from the definitions of changes.
use Rattle.std.specs.Prelude.{◌≡◌, ◌↔◌, ℕ, Bool, true, List, [], ◌++◌, length, take, drop, Option, None, Some, IsSomeAnd}
use Rattle.std.specs.FinMap as map
use Rattle.sn_limits.specs.declared.kind.Kind.TheVariants.{File, Directory}
use Rattle.sn_limits.specs.declared.limits.Limits.{Limits}
use Rattle.sn_limits.specs.Versions.{Allows}
use Rattle.sn_model.specs.declared.change.Change.{Change}
use Rattle.sn_model.specs.declared.change.Change.TheVariants.{Make, AddLink, Remove, Rename, Write, SetSize, SetAttributes}
use Rattle.sn_model.specs.declared.link.Link.{Link}
use Rattle.sn_model.specs.Chains.{◌>>=◌}
use Rattle.sn_model.specs.Tree.{Node, Tree, link_to}
use Rattle.sn_model.specs.Changes.{is_at_or_below, ownership_of, apply, apply_all}
use Rattle.sn_model.specs.NameTree.{HasKind, IsHierarchy, IsTree}
use Rattle.sn_model.specs.Settling.{settled, without_nameless}
use Rattle.sn_model.specs.Covers.{Covers}

-- A change that applies to a name tree gives a name tree.
abbrev pub ChangesKeepTheTree : Type 0
ChangesKeepTheTree = (limits : Limits) (c : Change) (tree after : Tree) → IsTree limits tree → apply limits c tree ≡ Some after → IsTree limits after

abbrev pub ListsKeepTheTree : Type 0
ListsKeepTheTree = (limits : Limits) (cs : List Change) (tree after : Tree) → IsTree limits tree → apply_all limits cs tree ≡ Some after → IsTree limits after

-- A name tree stays one under limits that allow more, and what can be done to a tree can be done under them, with the same result.
abbrev pub TreesStay : Type 0
TreesStay = (less more : Limits) (tree : Tree) → Allows less more → IsTree less tree → IsTree more tree

abbrev pub ChangesStay : Type 0
ChangesStay = (less more : Limits) (c : Change) (tree after : Tree) → Allows less more → apply less c tree ≡ Some after → apply more c tree ≡ Some after

abbrev pub ListsStay : Type 0
ListsStay = (less more : Limits) (cs : List Change) (tree after : Tree) → Allows less more → apply_all less cs tree ≡ Some after → apply_all more cs tree ≡ Some after

-- Dropping files without names keeps a name tree.
abbrev pub DroppingKeepsTheTree : Type 0
DroppingKeepsTheTree = (limits : Limits) (tree : Tree) (held : ℕ → Bool) → IsTree limits tree → IsTree limits (without_nameless held tree)

-- What a change brings is there afterwards: a name leads to its number, a node has the kind, the owners and the ACLs that were given, and a file the bytes and the size.
abbrev pub HasNode : Tree → ℕ → (Node → Type 0) → Type 0
HasNode tree number P = IsSomeAnd (map.get tree.nodes number) P

abbrev pub Brings : Change → Tree → Tree → Type 0
Brings (Make directory name number kind o) old new = (map.get new.links (link_to directory name) ≡ Some number) × HasNode new number (λ node. (node.kind ≡ kind) × (ownership_of node ≡ o) × (node.bytes ≡ []))
Brings (AddLink directory name number) old new = (map.get new.links (link_to directory name) ≡ Some number) × HasKind new number File
Brings (Remove directory name) old new = map.get new.links (link_to directory name) ≡ None
Brings (Rename old_directory old_name new_directory new_name) old new = IsSomeAnd (map.get old.links (link_to old_directory old_name)) (λ number. map.get new.links (link_to new_directory new_name) ≡ Some number)
Brings (Write number offset bytes) old new = HasNode new number (λ node. take (length bytes) (drop offset node.bytes) ≡ bytes)
Brings (SetSize number size) old new = HasNode new number (λ node. length node.bytes ≡ size)
Brings (SetAttributes number o) old new = HasNode new number (λ node. ownership_of node ≡ o)

abbrev pub ChangesBring : Type 0
ChangesBring = (limits : Limits) (c : Change) (tree after : Tree) → apply limits c tree ≡ Some after → Brings c tree after

-- it gives a tree that covers the other
abbrev pub GivesCover : Option Tree → Tree → Type 0
GivesCover given live = (tree : Tree) × (given ≡ Some tree) × Covers tree live

-- What can be applied to the live tree can be applied to the replayed one, and the results still cover.
abbrev pub ChangesKeepCovers : Type 0
ChangesKeepCovers = (limits : Limits) (c : Change) (replayed live after : Tree) → Covers replayed live → apply limits c live ≡ Some after → GivesCover (apply limits c replayed) after

-- What a list of changes makes of the live tree, replay makes too.
abbrev pub ListsKeepCovers : Type 0
ListsKeepCovers = (limits : Limits) (cs : List Change) (replayed live after : Tree) → Covers replayed live → apply_all limits cs live ≡ Some after → GivesCover (apply_all limits cs replayed) after

-- Dropping files without names from the live tree alone keeps it covered.
abbrev pub DroppingKeepsCovers : Type 0
DroppingKeepsCovers = (replayed live : Tree) (held : ℕ → Bool) → Covers replayed live → Covers replayed (without_nameless held live)

-- Settled, the two are one.
abbrev pub CoveredSettleAlike : Type 0
CoveredSettleAlike = (replayed live : Tree) → Covers replayed live → settled replayed ≡ settled live

-- A tree covers itself, and what covers a cover covers.
abbrev pub CoversItself : Type 0
CoversItself = (tree : Tree) → Covers tree tree

abbrev pub CoversJoin : Type 0
CoversJoin = (a b c : Tree) → Covers a b → Covers b c → Covers a c

-- A list of changes and one after it are applied as one list.
abbrev pub ListsJoin : Type 0
ListsJoin = (limits : Limits) (older newer : List Change) (tree : Tree) → apply_all limits (older ++ newer) tree ≡ (apply_all limits older tree >>= apply_all limits newer)

-- a directory is the other, or is below it
pub data IsBelow (tree : Tree) (top : ℕ) : ℕ → Type 0 where
  here : IsBelow tree top top
  under : (link : Link) (number : ℕ) → IsBelow tree top link.directory → map.get tree.links link ≡ Some number → IsBelow tree top number

-- In a hierarchy the test of a rename finds a directory below another, and nothing else.
abbrev pub TestIsBelow : Type 0
TestIsBelow = (tree : Tree) → IsHierarchy tree → (top d : ℕ) → HasKind tree d Directory → (is_at_or_below tree top d ≡ true) ↔ IsBelow tree top d
