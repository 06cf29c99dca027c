-- Look-ups of a view, and which of them a walk makes, in their order.
use Rattle.std.specs.Prelude.{◌≡◌, ℕ, ◌+◌, List, [], ◌∷◌, ◌++◌, Option, None, Some, Result, Ok, Err, if◌then◌else◌}
use Rattle.sn_acl.specs.Credential.{Credential}
use Rattle.sn_limits.specs.SnapshotName.{is_snapshot_name}
use Rattle.sn_walk.specs.declared.fault.Failure.{Failure}
use Rattle.sn_walk.specs.declared.fault.Failure.TheVariants.{Refused, Fault}
use Rattle.sn_walk.specs.declared.object.Home.{Home}
use Rattle.sn_walk.specs.declared.object.Object.{Object}
use Rattle.sn_walk.specs.declared.object.Object.TheVariants.{Node, Snapshots}
use Rattle.sn_walk.specs.declared.walking.WalkRefusal.{WalkRefusal}
use Rattle.sn_walk.specs.declared.walking.Walked.{Walked}
use Rattle.sn_walk.specs.declared.walking.Walked.TheVariants.{Root, Name}
use Rattle.sn_walk.specs.Objects.{root}
use Rattle.sn_walk.specs.Views.{ViewedTrees, attributes_at, hides}
use Rattle.sn_walk.specs.Walks.{admitted, passed}

-- what a view can be asked: for the attributes of a node, for a name of a directory, for the default ACL of a directory, and for a snapshot by its name
pub data LookUp : Type 0 where
  OfNode : Home → ℕ → LookUp
  OfLink : Home → ℕ → List ℕ → LookUp
  OfDefaultAcl : Home → ℕ → LookUp
  OfSnapshot : List ℕ → LookUp

-- for the attributes of an object
abbrev pub looks_at : Object → List LookUp
looks_at (Node home number) = OfNode home number ∷ []
looks_at Snapshots = []

-- for a name in a directory
abbrev pub looks_for : Object → List ℕ → List LookUp
looks_for (Node home directory) name = if hides home directory name then [] else OfLink home directory name ∷ []
looks_for Snapshots name = if is_snapshot_name name then OfSnapshot name ∷ [] else []

-- where a test passes, these
abbrev pub where_passed : {A E : Type 0} → Result A E → List LookUp → List LookUp
where_passed (Ok x) looks = looks
where_passed (Err e) looks = []

-- for the next name of a path: what is at the place first, and then the name, where that is a directory that grants search
abbrev pub looks_in : ViewedTrees → Credential → ℕ → Object → List ℕ → List LookUp
looks_in trees cred place directory name = looks_at directory ++ where_passed (admitted cred place (attributes_at trees directory)) (looks_for directory name)

-- where a name was found, those from there on
abbrev pub from_child : Option Object → (Object → List LookUp) → List LookUp
from_child None looks = []
from_child (Some object) looks = looks object

abbrev pub from_found : Result (Option Object) WalkRefusal → (Object → List LookUp) → List LookUp
from_found (Ok child) looks = from_child child looks
from_found (Err r) looks = []

-- from an object at a place, on by a name and the names after it, as far as the walk goes
unfoldable pub looks_from : ViewedTrees → Credential → ℕ → Object → List ℕ → List (List ℕ) → List LookUp
looks_from trees cred place directory name [] = looks_in trees cred place directory name
looks_from trees cred place directory name (next ∷ names) = looks_in trees cred place directory name ++ from_found (passed trees cred place directory name) (λ object. looks_from trees cred (place + 1) object next names)

-- the look-ups of a walk: at each place those of its own directory and of the path's next name in it, and none past the place where it ends or is refused
abbrev pub looks_of_walk : ViewedTrees → Credential → List (List ℕ) → List LookUp
looks_of_walk trees cred [] = []
looks_of_walk trees cred (name ∷ names) = looks_from trees cred 0 root name names

-- for what a walk's last name denotes
abbrev pub looks_at_last : Option Object → List LookUp
looks_at_last None = []
looks_at_last (Some object) = looks_at object

abbrev pub looks_to_reach : Walked → List LookUp
looks_to_reach Root = looks_at root
looks_to_reach (Name directory place object) = looks_at_last object

-- those at the front were made
pub record MadeInPart (Made : List LookUp → Type 0) (all : List LookUp) : Type 0 where
  pub front : List LookUp
  pub rest : List LookUp
  pub whole : all ≡ front ++ rest
  pub made : Made front

-- All were made, or, where a fault came, those at the front.
abbrev pub MadeUntil : {R F : Type 0} → Failure R F → (List LookUp → Type 0) → List LookUp → Type 0
MadeUntil (Refused r) Made all = Made all
MadeUntil (Fault f) Made all = MadeInPart Made all

abbrev pub Looks : {X R F : Type 0} → Result X (Failure R F) → (List LookUp → Type 0) → List LookUp → Type 0
Looks (Ok x) Made all = Made all
Looks (Err e) Made all = MadeUntil e Made all
