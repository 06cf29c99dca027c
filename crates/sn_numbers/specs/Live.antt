-- What the live tree with its kept back numbers stands for.
use Rattle.std.specs.Prelude.{ℕ, Bool}
use Rattle.sn_model.specs.Tree.{Tree}
use Rattle.sn_numbers.specs.Back.{held_of, since_of}
use Rattle.sn_plain.specs.Plain.{tree_of}
use Rattle.sn_numbers.specs.declared.numbered.NumberedTree.{NumberedTree}

abbrev pub live_of : NumberedTree → Tree
live_of t = tree_of t.tree

abbrev pub kept_back_of : NumberedTree → ℕ → Bool
kept_back_of t = held_of t.kept_back

-- those of them that are kept back since the consistency point in progress began, or the durable root's where none is
abbrev pub kept_since_of : NumberedTree → ℕ → Bool
kept_since_of t = since_of t.kept_back
