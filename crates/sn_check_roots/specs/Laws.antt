-- What the marks of all roots have to say of a copy of the map.
use Rattle.std.specs.Prelude.{◌≢◌, ℕ, ◌^◌, ◌<◌, List, [], ◌∷◌, ◌++◌, replicate, slice_index, Contains}
use Rattle.sn_device.specs.Sectors.{Contents}
use Rattle.sn_layout.specs.declared.geometry.Slot.{Slot}
use Rattle.sn_layout.specs.declared.root.RootBody.{RootBody}
use Rattle.sn_model.specs.declared.fault.Damage.{Damage}
use Rattle.sn_ondisk.specs.MapCopy.{map_word}
use Rattle.sn_ondisk.specs.Trees.{Store, store_of}
use Rattle.sn_image.specs.Reach.{reach}
use Rattle.sn_sound.specs.Maps.{Rooted, TellsRoots, rooted_in}
use Rattle.sn_sound.specs.Verdicts.{Stands}
use Rattle.sn_marks.specs.Marks.{Marks}
use Rattle.sn_check_roots.specs.Sets.{AreSets}
use Rattle.sn_check_roots.specs.Words.{HasOtherWord, HasWords}

-- Before any root is gone through, all words are 0.
abbrev pub SetsBegin : Type 0
SetsBegin = (s : Store) (n : ℕ) → AreSets s [] (replicate n 0)

-- A root adds its marks, where no other has its bit.
abbrev pub SetsGrow : Type 0
SetsGrow = (n : ℕ) (s : Store) (roots : List Rooted) (root : Rooted) (old new : List ℕ) → AreSets s roots old → ((other : Rooted) → Contains roots other → other.bit ≢ root.bit)
    → Marks n root.bit (reach s root.inodes) old new → AreSets s (roots ++ root ∷ []) new

-- the words are numbers of four bytes
abbrev pub FitWords : List ℕ → Type 0
FitWords words = (block : ℕ) → slice_index words block < 2 ^ 32

-- Where the words of a copy are those of the marks of all roots, they say what the roots reach.
abbrev pub RightWordsTellRoots : Type 0
RightWordsTellRoots = (n : ℕ) (c : Contents) (slot : Slot) (root : RootBody) (words : List ℕ) → FitWords words → AreSets (store_of c) (rooted_in root) words
    → HasWords n c slot words → TellsRoots n (store_of c) root (map_word n c slot)

-- And where one isn't, that is a fault of its block.
abbrev pub OtherWordsStand : Type 0
OtherWordsStand = (n : ℕ) (c : Contents) (slot : Slot) (root : RootBody) (words : List ℕ) (damage : Damage) (block : ℕ) → FitWords words → AreSets (store_of c) (rooted_in root) words
    → HasOtherWord n c slot words damage block → Stands n c slot root damage block
