-- How marks add up.
use Rattle.std.specs.Prelude.{ℕ, suc, ◌≤◌, List, [], ◌∷◌, ◌++◌}
use Rattle.sn_image.specs.Reach.{block_reach}
use Rattle.sn_ondisk.specs.Counts.{times}
use Rattle.sn_ondisk.specs.Trees.{Store, below, all_pointers}
use Rattle.sn_marks.specs.Marks.{Marks}
use Rattle.sn_marks.specs.Walks.{named}

-- What is gone through one after the other was all gone through.
abbrev pub MarksJoin : Type 0
MarksJoin = (n k height : ℕ) (s : Store) (ps qs a b c : List ℕ) → Marks n k (named (all_pointers s height ps)) a b → Marks n k (named (all_pointers s height qs)) b c
    → Marks n k (named (all_pointers s height (ps ++ qs))) a c

-- So it is one level down.
abbrev pub MarksGoDown : Type 0
MarksGoDown = (n k height : ℕ) (s : Store) (p : ℕ) (a b c : List ℕ) → Marks n k (block_reach p) a b → Marks n k (named (all_pointers s height (below s p))) b c
    → Marks n k (named (all_pointers s (suc height) (p ∷ []))) a c

-- Whatever is gone through has each block at most once.
abbrev pub MarksAreOnce : Type 0
MarksAreOnce = (n k : ℕ) (blocks a b : List ℕ) → Marks n k blocks a b → (block : ℕ) → times block blocks ≤ 1
