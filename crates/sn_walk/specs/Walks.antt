-- Walks: POSIX.1-2017, 4.13 Pathname Resolution. The place of a refusal is counted as this project counts it.
use Rattle.std.specs.Prelude.{◌≡◌, ℕ, ◌+◌, List, [], ◌∷◌, length, Option, None, Some, Result, Ok, Err, IsSomeAnd, if◌then◌else◌, ok_or, option_map, option_and_then}
use Rattle.std.specs.Option.{option_map_or}
use Rattle.sn_acl.specs.declared.entries.Entry.{Entry}
use Rattle.sn_acl.specs.Credential.{Credential}
use Rattle.sn_acl.specs.Access.{denial_of}
use Rattle.sn_limits.specs.declared.kind.Kind.TheVariants.{Directory}
use Rattle.sn_walk.specs.declared.view.Attributes.{Attributes}
use Rattle.sn_walk.specs.declared.object.Object.{Object}
use Rattle.sn_walk.specs.declared.walking.Obstacle.{Obstacle}
use Rattle.sn_walk.specs.declared.walking.Obstacle.TheVariants.{NotADirectory, Denied, Missing}
use Rattle.sn_walk.specs.declared.walking.WalkRefusal.{WalkRefusal}
use Rattle.sn_walk.specs.declared.walking.Walked.{Walked}
use Rattle.sn_walk.specs.declared.walking.Walked.TheVariants.{Root, Name}
use Rattle.sn_walk.specs.declared.walking.Found.{Found}
use Rattle.sn_walk.specs.Chains.{◌>>=◌}
use Rattle.sn_walk.specs.Objects.{root}
use Rattle.sn_walk.specs.Paths.{last_after}
use Rattle.sn_walk.specs.Views.{ViewedTrees, attributes_at, child_of, is_directory}

abbrev pub refusal : ℕ → Obstacle → WalkRefusal
refusal place obstacle = record { place = place; obstacle = obstacle }

abbrev pub searched : ℕ → Option Entry → Result (Unit {0}) WalkRefusal
searched place denial = option_map_or (λ entry. Err (refusal place (Denied entry.tag))) denial (Ok tt)

-- at a place of the path there has to be a directory, and it has to grant search
abbrev pub admitted : Credential → ℕ → Option Attributes → Result (Unit {0}) WalkRefusal
admitted cred place None = Err (refusal place Missing)
admitted cred place (Some a) = if is_directory a.kind then searched place (denial_of cred a.owner a.group a.acl 1) else Err (refusal place NotADirectory)

-- what the next name denotes
abbrev pub passed : ViewedTrees → Credential → ℕ → Object → List ℕ → Result (Option Object) WalkRefusal
passed trees cred place directory name = admitted cred place (attributes_at trees directory) >>= (λ _. Ok (child_of trees directory name))

-- the next name has to be there
abbrev pub present : ℕ → Option Object → Result Object WalkRefusal
present place child = ok_or child (refusal place Missing)

-- from an object at a place, on by a name and the names after it
unfoldable pub walk_from : ViewedTrees → Credential → ℕ → Object → List ℕ → List (List ℕ) → Result Walked WalkRefusal
walk_from trees cred place directory name [] = passed trees cred place directory name >>= (λ object. Ok (Name directory place object))
walk_from trees cred place directory name (next ∷ names) = passed trees cred place directory name >>= (λ child. present place child >>= (λ object. walk_from trees cred (place + 1) object next names))

-- a path's chain of links from the root, or the walk's first refusal
abbrev pub walk_of : ViewedTrees → Credential → List (List ℕ) → Result Walked WalkRefusal
walk_of trees cred [] = Ok Root
walk_of trees cred (name ∷ names) = walk_from trees cred 0 root name names

-- what a path leads to, with its place and attributes
abbrev pub found_as : ℕ → Object → Option Attributes → Option Found
found_as place object attributes = option_map (λ a. record { object = object; place = place; attributes = a }) attributes

abbrev pub found_last : ViewedTrees → ℕ → Option Object → Option Found
found_last trees place last = option_and_then (λ object. found_as place object (attributes_at trees object)) last

abbrev pub found_at : ViewedTrees → Walked → Option Found
found_at trees Root = found_as 0 root (attributes_at trees root)
found_at trees (Name directory place object) = found_last trees (place + 1) object

-- the place of the directory that has the last name
abbrev pub end_of : Walked → ℕ
end_of Root = 0
end_of (Name directory place object) = place

-- Where a walk along these names may end: the place counts the names before the last, the object is what the last name denotes in what is there, and that is a directory.
abbrev pub EndsAfter : ViewedTrees → ℕ → List ℕ → List (List ℕ) → Walked → Type 0
EndsAfter trees place name names Root = ⊥
EndsAfter trees place name names (Name directory end object) = (end ≡ place + length names) × (object ≡ child_of trees directory (last_after name names)) × IsSomeAnd (attributes_at trees directory) (λ a. a.kind ≡ Directory)

abbrev pub EndsAt : ViewedTrees → List (List ℕ) → Walked → Type 0
EndsAt trees [] w = w ≡ Root
EndsAt trees (name ∷ names) w = EndsAfter trees 0 name names w
