-- The order in which directories get their rights.
use Rattle.std.specs.Prelude.{ℕ, Bool, ◌==◌, nat_lt, List, count_by}
use Rattle.std.specs.List.Sorted.{IsPermutation, IsSortedBy, IsStableBy}
use Rattle.sn_import.specs.declared.object.Object.{Object}
use Rattle.sn_import.specs.declared.object.What.{What}
use Rattle.sn_import.specs.declared.object.What.TheVariants.{Top}

abbrev pub is_slash : ℕ → Bool
is_slash b = b == 47

-- how many names the path has; the directory that the archive goes into is above all others
abbrev pub depth_of : List ℕ → What → ℕ
depth_of path (Top rights) = 0
depth_of path _ = count_by is_slash path

abbrev pub depth : Object → ℕ
depth object = depth_of object.path object.what

abbrev pub is_deeper : Object → Object → Bool
is_deeper a b = nat_lt (depth b) (depth a)

-- The same objects, none before a deeper one, and those of one depth in the order that they had.
pub record AreDeepestFirst (old new : List Object) : Type 0 where
  pub same : IsPermutation old new
  pub deepest : IsSortedBy is_deeper new
  pub stable : IsStableBy is_deeper old new
