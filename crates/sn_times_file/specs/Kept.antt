-- What a file of times says, and its one spelling.
use Rattle.std.specs.Prelude.{ℕ, ◌^◌, ◌<◌, ◌≤◌, List, ◌∷◌, ◌++◌, length, codes}
use Rattle.std.specs.List.{AllByRecursion, flat_map}
use Rattle.std.specs.FinMap as map
use Rattle.std.specs.Ordering.{nat_cmp}
use Rattle.sha2.specs.Sha256.{sha256}
use Rattle.sn_bytes.specs.Bytes.{number_bytes}
use Rattle.sn_fuse.specs.declared.operation.Time.{Time}
use Rattle.sn_times.specs.declared.stamps.Stamps.{Stamps}
use Rattle.sn_times.specs.Dates.{Tree}

-- the times of the objects of a tree that have times of their own, by their numbers in it
abbrev pub Own : Type 0
Own = map.FinMap nat_cmp Stamps

-- the times of a tree's objects, under the name of the tree
pub record Named : Type 0 where
  pub name : List ℕ
  pub tree : Tree

-- the root with which the times count, and the trees of which times are kept
pub record Kept : Type 0 where
  pub root : List ℕ
  pub sections : List Named

-- ---- what can be kept

abbrev pub IsTime : Time → Type 0
IsTime time = (time.seconds < 2 ^ 64) × (time.nanoseconds < 1000000000)

-- a number in a tree, and the times of its object
abbrev pub IsEntry : ℕ × Stamps → Type 0
IsEntry entry = (entry.0 < 65536) × IsTime entry.1.accessed × IsTime entry.1.modified × IsTime entry.1.changed

abbrev pub IsOwn : Own → Type 0
IsOwn own = AllByRecursion IsEntry (map.entries own)

abbrev pub IsTree : Tree → Type 0
IsTree tree = IsTime tree.base × (map.len tree.own < 2 ^ 64) × IsOwn tree.own

abbrev pub IsNamed : Named → Type 0
IsNamed named = (length named.name ≤ 255) × IsTree named.tree

-- as many trees as an image can have, which are the live one and 31 snapshots
abbrev pub AreSections : List Named → Type 0
AreSections sections = (length sections ≤ 32) × AllByRecursion IsNamed sections

abbrev pub IsKept : Kept → Type 0
IsKept kept = (length kept.root ≤ 4096) × AreSections kept.sections

-- ---- spellings

abbrev pub time_bytes : Time → List ℕ
time_bytes time = number_bytes 8 time.seconds ++ number_bytes 4 time.nanoseconds

abbrev pub entry_bytes : ℕ × Stamps → List ℕ
entry_bytes entry = number_bytes 2 entry.0 ++ time_bytes entry.1.accessed ++ time_bytes entry.1.modified ++ time_bytes entry.1.changed

-- how many objects have times of their own, and these
abbrev pub own_bytes : Own → List ℕ
own_bytes own = number_bytes 8 (map.len own) ++ flat_map entry_bytes (map.entries own)

abbrev pub tree_bytes : Tree → List ℕ
tree_bytes tree = time_bytes tree.base ++ own_bytes tree.own

abbrev pub named_bytes : Named → List ℕ
named_bytes named = (length named.name ∷ named.name) ++ tree_bytes named.tree

-- the magic, version 2, and the size of the root
abbrev pub head_bytes : List ℕ → List ℕ
head_bytes root = codes "snaptime" ++ number_bytes 4 2 ++ number_bytes 4 (length root)

abbrev pub front_bytes : List ℕ → List ℕ
front_bytes root = head_bytes root ++ root

abbrev pub body_bytes : Kept → List ℕ
body_bytes kept = front_bytes kept.root ++ flat_map named_bytes kept.sections

unfoldable pub checksum : List ℕ → List ℕ
checksum bytes = sha256 bytes

abbrev pub sealed : List ℕ → List ℕ
sealed bytes = bytes ++ checksum bytes

abbrev pub spelling : Kept → List ℕ
spelling kept = sealed (body_bytes kept)
