-- Names that are to change, and what the directory has then.
use Rattle.std.specs.Prelude.{◌≡◌, ◌≢◌, ℕ, ◌≤◌, ◌==◌, ◌||◌, if◌then◌else◌, Bool, true, List, [], ◌∷◌, Some, None, IfSome, Option, All, Contains, count_by, is_some}
use Rattle.std.specs.Str.{bytes_eq}
use Rattle.sn_layout.specs.declared.tree.BlockTree.{BlockTree}
use Rattle.sn_layout_node.specs.Directory.{Link, IsLink, number_of}
use Rattle.sn_image.specs.Sound.{AreOnce}
use Rattle.sn_dir_change.specs.declared.name_change.NameChange.{NameChange}

-- how often a name occurs among links
abbrev pub times_named : List ℕ → List Link → ℕ
times_named name links = count_by (λ (l : Link). bytes_eq l.name name) links

-- a name and the number that is to be under it, if one is
abbrev pub numbered : List ℕ → Option ℕ → List Link
numbered name None = []
numbered name (Some number) = record { number = number; name = name } ∷ []

-- the link that is to be there after a change, if one is
abbrev pub link_for : NameChange → List Link
link_for change = numbered change.name.now change.number

-- what is to be there is a link
abbrev pub IsChange : NameChange → Type 0
IsChange change = IfSome change.number (λ number. IsLink (record { number = number; name = change.name.now }))

abbrev pub AreLinkChanges : List NameChange → Type 0
AreLinkChanges changes = (change : NameChange) → Contains changes change → IsChange change

-- a name is to be there after each of them
abbrev pub ArePuts : List NameChange → Type 0
ArePuts changes = (change : NameChange) → Contains changes change → is_some change.number ≡ true

-- whether a change does anything: a name that is to go and isn't there is as it is to be
abbrev pub is_needed : List Link → NameChange → Bool
is_needed names change = is_some change.number || is_some (number_of change.name.now names)

-- how many changes do
abbrev pub needed_changes : List Link → List NameChange → ℕ
needed_changes names changes = count_by (is_needed names) changes

-- A directory without a block gets its first one with its first name, also where that name goes again.
abbrev pub first_block : BlockTree → ℕ
first_block tree = if tree.size == 0 then 1 else 0

-- Changes of different names.
pub record AreChanges (changes : List NameChange) : Type 0 where
  pub each : AreLinkChanges changes
  pub once : (name : List ℕ) → count_by (λ (change : NameChange). bytes_eq change.name.now name) changes ≤ 1

-- The directory as a finite map from name to number: the names that were to change denote what they were to, or aren't there, the others denote what they did, and none occurs twice.
pub record IsChanged (changes : List NameChange) (old new : List Link) : Type 0 where
  pub made : All (λ (change : NameChange). number_of change.name.now new ≡ change.number) changes
  pub others : (name : List ℕ) → All (λ (change : NameChange). change.name.now ≢ name) changes → number_of name new ≡ number_of name old
  pub once : AreOnce new
