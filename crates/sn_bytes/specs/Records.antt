-- Records of numbers as they are on the disk: one number after the other, each with a width of its own.
use Rattle.std.specs.Prelude.{ℕ, ◌^◌, ◌<◌, List, [], ◌∷◌, ◌++◌}
use Rattle.sn_bytes.specs.Bytes.{number_bytes}

-- the numbers, each of as many bytes as its width says, and after them the rest
abbrev pub numbers_then : List ℕ → List ℕ → List ℕ → List ℕ
numbers_then (width ∷ widths) (number ∷ numbers) rest = number_bytes width number ++ numbers_then widths numbers rest
numbers_then _ _ rest = rest

-- as many numbers as widths, each of which fits its own
abbrev pub AreOfWidths : List ℕ → List ℕ → Type 0
AreOfWidths [] [] = Unit {0}
AreOfWidths (width ∷ widths) (number ∷ numbers) = (number < 256 ^ width) × AreOfWidths widths numbers
AreOfWidths _ _ = ⊥
