-- A directory while its names change, one block after the other.
use Rattle.std.specs.Prelude.{◌≡◌, ◌≢◌, ◌⊎◌, ℕ, ◌+◌, ◌≤◌, true, List, ◌++◌, None, All, Contains, count_by, is_some}
use Rattle.std.specs.Str.{bytes_eq}
use Rattle.sn_layout_node.specs.Directory.{Link, AreLinks, number_of}
use Rattle.sn_image.specs.Sound.{AreOnce}
use Rattle.sn_dir_change.specs.Changes.{link_for}
use Rattle.sn_dir_change.specs.declared.name_change.NameChange.{NameChange}

-- how often a name is to change
abbrev pub times_changed : List ℕ → List NameChange → ℕ
times_changed name changes = count_by (λ (change : NameChange). bytes_eq change.name.now name) changes

-- they are changes of different names
abbrev pub AreApart : List NameChange → Type 0
AreApart changes = (name : List ℕ) → times_changed name changes ≤ 1

-- none of these names is among the links
abbrev pub AreGone : List NameChange → List Link → Type 0
AreGone changes links = All (λ (change : NameChange). number_of change.name.now links ≡ None) changes

-- a block of these links has no room for any of these names
abbrev pub AreFull : List NameChange → List Link → Type 0
AreFull waiting links = (change : NameChange) → Contains waiting change → AreLinks (links ++ link_for change) → ⊥

-- the link is one that was there, or one of those that waited
abbrev pub IsLinkFrom : List NameChange → List Link → Link → Type 0
IsLinkFrom waiting links link = Contains links link ⊎ ((change : NameChange) × Contains waiting change × Contains (link_for change) link)

-- Of the changes some are still to be made: those of names that are after the blocks that were gone through, and those of names that are nowhere. `names` are all names as they are now, and `front` those of the blocks that were gone through.
pub record IsUnderWay (changes standing waiting : List NameChange) (front names old : List Link) : Type 0 where
  pub listed : (change : NameChange) → Contains changes change → Contains standing change ⊎ (Contains waiting change ⊎ (number_of change.name.now names ≡ change.number))
  pub others : (name : List ℕ) → All (λ (change : NameChange). change.name.now ≢ name) changes → number_of name names ≡ number_of name old
  pub once : AreOnce names
  pub apart : AreApart changes
  pub stand : (change : NameChange) → Contains standing change → is_some (number_of change.name.now names) ≡ true
  pub behind : AreGone standing front
  pub stand_apart : AreApart standing
  pub stand_listed : (change : NameChange) → Contains standing change → Contains changes change
  pub wait : AreGone waiting names
  pub wait_apart : AreApart waiting
  pub wait_listed : (change : NameChange) → Contains waiting change → Contains changes change

-- Changes that were parted by whether their names are there. A name that is to go and isn't there is in neither list.
pub record AreParted (names : List Link) (changes standing waiting : List NameChange) : Type 0 where
  pub listed : (c : NameChange) → Contains changes c → Contains standing c ⊎ (Contains waiting c ⊎ (number_of c.name.now names ≡ c.number))
  pub stand : (c : NameChange) → Contains standing c → (is_some (number_of c.name.now names) ≡ true) × Contains changes c
  pub wait : (c : NameChange) → Contains waiting c → (number_of c.name.now names ≡ None) × Contains changes c
  pub count : (name : List ℕ) → times_changed name standing + times_changed name waiting ≤ times_changed name changes
