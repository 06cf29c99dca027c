-- The roots of a disk, group by group.
use Rattle.std.specs.Prelude.{ℕ, ◌<◌, List, take, Contains}
use Rattle.sn_device.specs.Sectors.{Contents}
use Rattle.sn_layout.specs.declared.geometry.Slot.{Slot}
use Rattle.sn_layout.specs.declared.root.RootBody.{RootBody}
use Rattle.sn_model.specs.declared.fault.Damage.{Damage}
use Rattle.sn_ondisk.specs.MapCopy.{map_word}
use Rattle.sn_ondisk.specs.Trees.{Store, store_of}
use Rattle.sn_image.specs.Sound.{IsLinked}
use Rattle.sn_sound.specs.Maps.{Rooted, TellsRoots, rooted_in}
use Rattle.sn_sound.specs.Verdicts.{Stands, group_of}
use Rattle.sn_check_root.specs.Rules.{IsSoundButLinks}
use Rattle.sn_check_roots.specs.Sets.{AreSets}

-- Each of these roots is sound but for its links.
abbrev pub AreChecked : ℕ → Store → RootBody → List Rooted → Type 0
AreChecked n s root roots = (r : Rooted) → Contains roots r → IsSoundButLinks root.limits n s r.inodes

-- The first so many roots are sound but for their links, and marked.
pub record AreDone (n : ℕ) (s : Store) (root : RootBody) (i : ℕ) (words : List ℕ) : Type 0 where
  pub sets : AreSets s (take i (rooted_in root)) words
  pub checked : AreChecked n s root (take i (rooted_in root))

-- Each of these roots is linked.
abbrev pub AreLinked : Store → List Rooted → Type 0
AreLinked s roots = (r : Rooted) → Contains roots r → IsLinked s r.inodes

-- All roots are sound but for their links, and the map says what they reach.
pub record AreMarked (n : ℕ) (c : Contents) (slot : Slot) (root : RootBody) : Type 0 where
  pub checked : AreChecked n (store_of c) root (rooted_in root)
  pub map : TellsRoots n (store_of c) root (map_word n c slot)

-- The fault is there, and none of an earlier group is.
pub record IsFirstOf (n : ℕ) (c : Contents) (slot : Slot) (root : RootBody) (damage : Damage) (block : ℕ) : Type 0 where
  pub stands : Stands n c slot root damage block
  pub before : (other : Damage) (place : ℕ) → group_of other < group_of damage → Stands n c slot root other place → ⊥
