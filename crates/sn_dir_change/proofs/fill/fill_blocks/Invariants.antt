use Rattle.std.proofs.Common.{ℕ, ◌+◌, ◌<◌, ◌^◌, Bool, List, length, IsTrue}
use Rattle.sn_layout.specs.declared.tree.BlockTree.{BlockTree as TheTree}
use Rattle.sn_ondisk.specs.Trees.{Store}
use Rattle.sn_dir_change.specs.Changes.{AreLinkChanges}
use Rattle.sn_dir_change.specs.Through.{IsFilled}
use Rattle.sn_dir_change.specs.declared.name_change.NameChange.{NameChange as TheChange}
use Rattle.sn_dir_change.proofs.fill.fill_blocks.Given as goal

abbrev pub invariant-loop-change : goal.invariant-loop-change
invariant-loop-change l = record {
  waiting : AreLinkChanges l.waiting.items;
  room : l.count + length l.waiting.items < 2 ^ 52;
  filled : (told : Bool) (s : Store) (tree : TheTree) (changes : List TheChange) (bound : ℕ)
      → IsFilled (IsTrue told) s tree changes bound l.initial.count l.initial.dirty.items l.initial.waiting.items
      → IsFilled (IsTrue told) s tree changes bound l.count l.dirty.items l.waiting.items;
}

abbrev pub decreases-loop-change : goal.decreases-loop-change
decreases-loop-change l = length l.waiting.items
