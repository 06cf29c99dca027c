-- Runs of sectors and blocks of eight.
use Rattle.std.specs.Prelude.{◌≢◌, ℕ, ◌+◌, ◌/◌, ◌<◌, ◌≤◌}

-- none of so many sectors from the first on is in this block
abbrev pub IsApart : ℕ → ℕ → ℕ → Type 0
IsApart first count number = (at : ℕ) → first ≤ at → at < first + count → at / 8 ≢ number
