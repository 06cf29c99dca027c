-- Where the new blocks of a point lie.
use Rattle.std.specs.Prelude.{ℕ, List, [], ◌∷◌, Bool, true, ◌&&◌, nat_le, nat_lt}
use Rattle.sn_layout.specs.Geometry.{end_of, start_of}
use Rattle.sn_layout.specs.declared.geometry.Area.TheVariants.{Data}
use Rattle.sn_tree.specs.declared.new_block.NewBlock.{NewBlock}

-- in the data area of a disk of so many blocks
abbrev pub is_data : ℕ → ℕ → Bool
is_data n number = nat_le (start_of n Data) number && nat_lt number (end_of n Data)

-- each there, and above the one before it
abbrev pub are_placed : ℕ → ℕ → List NewBlock → Bool
are_placed n before [] = true
are_placed n before (b ∷ more) = nat_lt before b.number && (is_data n b.number && are_placed n b.number more)
