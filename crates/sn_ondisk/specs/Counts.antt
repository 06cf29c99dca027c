-- How often something is named.
use Rattle.std.specs.Prelude.{ℕ, ◌==◌, List, count_by}

-- how often a block occurs in a list
abbrev pub times : ℕ → List ℕ → ℕ
times block blocks = count_by (λ b. b == block) blocks
