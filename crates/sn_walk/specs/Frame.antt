-- What look-ups leave of a view, or of a tree that is read.
use Rattle.std.specs.Prelude.{◌≡◌, Bool, IsTrue}

-- It can still be looked at, is a later state of what it was, and shows the same.
abbrev pub Leaves : {S : Type 0} {T : Type 0} → (S → Type 0) → (S → S → Type 0) → Bool → (S → T) → S → S → Type 0
Leaves holds follows told shows old new = holds new × follows old new × (IsTrue told → shows new ≡ shows old)
