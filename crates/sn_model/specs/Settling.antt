-- Files without names, and what a restart leaves of a world. POSIX.1-2017, unlink().
use Rattle.std.specs.Prelude.{◌≡◌, ℕ, Bool, true, false, not, ◌&&◌, ◌||◌, ◌==◌, Option, None, Some, count_by, replicate, if◌then◌else◌}
use Rattle.std.specs.Option.{option_map_or}
use Rattle.std.specs.List.{list_any}
use Rattle.std.specs.FinMap as map
use Rattle.sn_model.specs.declared.change.Change.{Change}
use Rattle.sn_model.specs.declared.change.Change.TheVariants.{Remove, Rename}
use Rattle.sn_model.specs.Changes.{is_file, take_node}
use Rattle.sn_model.specs.Tree.{Node, Tree, link_to, names_for}
use Rattle.sn_walk.specs.declared.object.Home.{Home}
use Rattle.sn_walk.specs.declared.object.Home.TheVariants.{Live, Frozen}
use Rattle.sn_model.specs.World.{World}

abbrev pub is_nameless : Tree → ℕ → Option Node → Bool
is_nameless tree number None = false
is_nameless tree number (Some node) = is_file node.kind && names_for tree number == 0

-- the tree without the files that have no name and that nothing holds
abbrev pub without_nameless : (ℕ → Bool) → Tree → Tree
without_nameless held tree = record tree { nodes = map.retain_keys tree.nodes (λ n. not (is_nameless tree n (map.get tree.nodes n)) || held n) }

abbrev pub settled : Tree → Tree
settled tree = without_nameless (λ _. false) tree

-- how many files of a tree have no name
unfoldable pub nameless_in : Tree → ℕ
nameless_in tree = count_by (λ (e : ℕ × Node). is_nameless tree e.0 (Some e.1)) (map.entries tree.nodes)

-- a tree that isn't there has none
abbrev pub nameless_if : Option Tree → ℕ
nameless_if found = option_map_or nameless_in found 0

abbrev pub is_of_live : ℕ → Home → ℕ → Bool
is_of_live number Live other = other == number
is_of_live number (Frozen name) other = false

-- whether an open file of the live tree has the number
abbrev pub is_held : World → ℕ → Bool
is_held world number = list_any (λ e. is_of_live number e.1.home e.1.number) (map.entries world.descriptors)

-- the number that a change takes a name of
abbrev pub loses : Change → Tree → Option ℕ
loses (Remove directory name) tree = map.get tree.links (link_to directory name)
loses (Rename old_directory old_name new_directory new_name) tree = map.get tree.links (link_to new_directory new_name)
loses change tree = None

-- a live file in no link and no descriptor
abbrev pub is_abandoned : World → ℕ → Bool
is_abandoned world number = is_nameless world.live number (map.get world.live.nodes number) && not (is_held world number)

-- no live file but the one that lost a name may be so
abbrev pub OnlyLost : World → Option ℕ → Type 0
OnlyLost world lost = (number : ℕ) → is_abandoned world number ≡ true → lost ≡ Some number

-- one file goes, where it is so
abbrev pub dropped_if : World → ℕ → World
dropped_if world number = if is_abandoned world number then record world { live = take_node world.live number } else world

-- a live file in no link and no descriptor goes in the step that leaves it so
abbrev pub dropped : World → World
dropped world = record world { live = without_nameless (is_held world) world.live }

-- nobody is logged in, nothing is open, and no live file is without a name
abbrev pub settle : World → World
settle world = record world { live = settled world.live; sessions = replicate 64 None; descriptors = map.empty }
