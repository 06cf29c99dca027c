-- The numbers of a tree that were noted, one by one.
use Rattle.std.specs.Prelude.{◌≡◌, ℕ, ◌+◌, ◌-◌, ◌^◌, ◌==◌, Bool, true, false, if◌then◌else◌, ◌&&◌, ◌||◌, is_some, min}
use Rattle.std.specs.FinMap as map
use Rattle.sn_limits.specs.declared.kind.Kind.{Kind}
use Rattle.sn_limits.specs.declared.kind.Kind.TheVariants.{File, Directory}
use Rattle.sn_model.specs.Settling.{is_nameless}
use Rattle.sn_model.specs.Tree.{Tree}
use Rattle.sn_number_table.specs.Nameless.{is_listed}
use Rattle.sn_number_table.specs.Table.{is_taken_in, kept_of, since_of}
use Rattle.sn_rooted_tree.specs.declared.numbers.NumberUse.{NumberUse}
use Rattle.sn_rooted_tree.specs.declared.numbers.NumberUse.TheVariants.{Unused, Named, Nameless}
use Rattle.sn_rooted_tree.specs.declared.numbers.RootNumbers.{RootNumbers}

abbrev pub has_node : NumberUse → Bool
has_node Unused = false
has_node Named = true
has_node Nameless = true

abbrev pub lacks_name : NumberUse → Bool
lacks_name Unused = false
lacks_name Named = false
lacks_name Nameless = true

-- what an inode of this kind with this many links belongs to
abbrev pub use_of : Kind → ℕ → NumberUse
use_of File links = if links == 0 then Nameless else Named
use_of Directory links = Named

-- What has a number in a tree.
pub record HasUse (tree : Tree) (number : ℕ) (found : NumberUse) : Type 0 where
  pub node : has_node found ≡ is_some (map.get tree.nodes number)
  pub nameless : lacks_name found ≡ is_nameless tree number (map.get tree.nodes number)

-- One number more was noted.
pub record NotesUse (number : ℕ) (found : NumberUse) (old new : RootNumbers) : Type 0 where
  pub taken : (n : ℕ) → is_taken_in new.numbers n ≡ (n == number && has_node found || is_taken_in old.numbers n)
  pub listed : (n : ℕ) → is_listed new.nameless_files n ≡ (n == number && lacks_name found || is_listed old.nameless_files n)
  pub counted : new.nameless ≡ (if lacks_name found then min (old.nameless + 1) (2 ^ 32 - 1) else old.nameless)

-- No number is kept back.
pub record KeepsNone (found : RootNumbers) : Type 0 where
  pub kept : (n : ℕ) → kept_of found.numbers n ≡ false
  pub since : (n : ℕ) → since_of found.numbers n ≡ false

-- Nothing was noted.
pub record NotesNone (found : RootNumbers) : Type 0 where
  pub taken : (n : ℕ) → is_taken_in found.numbers n ≡ false
  pub listed : (n : ℕ) → is_listed found.nameless_files n ≡ false
  pub counted : found.nameless ≡ 0
  pub keeps : KeepsNone found
