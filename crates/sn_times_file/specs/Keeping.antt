-- What a mount leaves of its times, and with which the next one begins.
use Rattle.std.specs.Prelude.{◌≡◌, ◌⊎◌, ◌≤◌, ◌==◌, ℕ, ◌+◌, List, [], ◌∷◌, length, map, Option, None, Some, if◌then◌else◌}
use Rattle.std.specs.FinMap as fin
use Rattle.std.specs.List.{AllByRecursion}
use Rattle.std.specs.Option.{unwrap_or}
use Rattle.sn_fuse.specs.declared.operation.Time.{Time}
use Rattle.sn_times.specs.Dates.{Dates, Tree, all_forgotten, bare, named_tree, tree_of, with_name, with_tree}
use Rattle.sn_times_file.specs.Kept.{IsKept, IsNamed, Kept, Named, spelling}

-- the section of the live tree has an empty name
abbrev pub live_section : Tree → Named
live_section tree = record { name = []; tree = tree }

-- the times of a snapshot
abbrev pub section_of : Dates → List ℕ → Named
section_of dates name = record { name = name; tree = unwrap_or (named_tree dates name) (bare dates.base) }

abbrev pub snapshots_of : Dates → List Named
snapshots_of dates = map (section_of dates) (fin.keys dates.homes)

abbrev pub AreSnapshots : List Named → Type 0
AreSnapshots sections = (length sections ≤ 31) × AllByRecursion IsNamed sections

-- the times of the live tree and of all snapshots that are known, with the root as it is at the end
abbrev pub left_by : List ℕ → Dates → Kept
left_by root dates = record { root = root; sections = live_section (tree_of dates 0) ∷ snapshots_of dates }

-- the first section with an empty name is the live tree's
abbrev pub with_live : Dates → Tree → Option Tree → Dates
with_live dates tree None = with_tree dates 0 (Some tree)
with_live dates tree (Some live) = dates

-- the times of a section: of the live tree, or of the snapshot with its name, for which they wait at a home
abbrev pub with_section : Dates → ℕ → Named → Dates
with_section dates home section =
    if length section.name == 0 then with_live dates section.tree (fin.get dates.trees 0) else with_tree (with_name dates section.name home) home (Some section.tree)

abbrev pub with_sections : List Named → ℕ → Dates → Dates
with_sections [] home dates = dates
with_sections (section ∷ others) home dates = with_sections others (home + 1) (with_section dates home section)

-- Live objects have the times that were kept, and so have those of snapshots once these are met. All others have the time of the mount.
abbrev pub begun : List Named → Time → Dates
begun sections now = with_sections sections 281474976710656 (all_forgotten now)

-- these bytes are what was kept with this root
pub record AreOf (root bytes : List ℕ) (kept : Kept) : Type 0 where
  pub fits : IsKept kept
  pub spelled : bytes ≡ spelling kept
  pub rooted : kept.root ≡ root

-- Where the bytes are what was kept with this root, a mount begins with that, and else with no times.
abbrev pub IsRestored : List ℕ → List ℕ → Time → Dates → Type 0
IsRestored root bytes now times =
    ((kept : Kept) × AreOf root bytes kept × (times ≡ begun kept.sections now)) ⊎ (((kept : Kept) → ¬ AreOf root bytes kept) × (times ≡ all_forgotten now))
