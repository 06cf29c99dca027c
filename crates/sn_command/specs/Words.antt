-- Words of a command line.
use Rattle.std.specs.Prelude.{ℕ, Bool, true, ◌==◌, List, [], ◌∷◌}

-- a word that no command takes: an empty one, or one that begins with a dash
abbrev pub is_misfit : List ℕ → Bool
is_misfit [] = true
is_misfit (b ∷ bytes) = b == 45
