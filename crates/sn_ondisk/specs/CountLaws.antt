-- How often pointers lead to a block, all that are below them counted.
use Rattle.std.specs.Prelude.{◌≡◌, ◌≢◌, ◌↔◌, ℕ, suc, ◌+◌, ◌*◌, ◌^◌, ◌<◌, List, [], ◌∷◌, ◌++◌, length, Contains}
use Rattle.sn_layout.specs.Pointers.{levels_of}
use Rattle.sn_layout.specs.declared.tree.BlockTree.{BlockTree}
use Rattle.sn_ondisk.specs.Counts.{times}
use Rattle.sn_ondisk.specs.Trees.{Store, below, pointers_at, all_pointers, tree_reach}

-- What is in a list is counted.
abbrev pub NamedIsCounted : Type 0
NamedIsCounted = (block : ℕ) (blocks : List ℕ) → Contains blocks block ↔ 0 < times block blocks

-- Lists that are joined lead to a block as often as each of them does together.
abbrev pub JoinedAddUp : Type 0
JoinedAddUp = (s : Store) (block depth : ℕ) (ps qs : List ℕ)
    → times block (all_pointers s depth (ps ++ qs)) ≡ times block (all_pointers s depth ps) + times block (all_pointers s depth qs)

-- A pointer leads to a block once for itself, if it names it, and as often as those below it do.
abbrev pub LevelsAddUp : Type 0
LevelsAddUp = (s : Store) (block depth p : ℕ)
    → times block (all_pointers s (suc depth) (p ∷ [])) ≡ times block (p ∷ []) + times block (all_pointers s depth (below s p))

-- A tree reaches a block as often as its sixteen pointers lead to it.
abbrev pub ReachIsCounted : Type 0
ReachIsCounted = (s : Store) (tree : BlockTree) (block : ℕ) → block ≢ 0
    → times block (tree_reach s tree) ≡ times block (all_pointers s (levels_of tree.size) tree.pointers)

-- Below each pointer are 1,024 for each level.
abbrev pub LevelsAreFull : Type 0
LevelsAreFull = (s : Store) (depth : ℕ) (pointers : List ℕ) → length (pointers_at s depth pointers) ≡ length pointers * 1024 ^ depth
