use Rattle.std.proofs.Common.{◌≡◌, ◌++◌, ◌-◌, ◌≤◌, List, length, take}
use Rattle.std.specs.Prelude.{Contains}
use Rattle.sn_layout_node.specs.Directory.{Link, IsDirectoryBlock}
use Rattle.sn_image.specs.Names.{names_in}
use Rattle.sn_dir_change.specs.Changes.{AreLinkChanges}
use Rattle.sn_dir_change.specs.NameMarks.{AreMarked}
use Rattle.sn_dir_change.specs.UnderWay.{AreGone, IsUnderWay}
use Rattle.sn_dir_change.specs.declared.name_change.NameChange.{NameChange as TheChange}
use Rattle.sn_dir_change.proofs.pass.amend_standing.Given as goal

abbrev pub invariant-loop-k : goal.invariant-loop-k
invariant-loop-k l = record {
  block : IsDirectoryBlock l.block;
  marks : AreMarked l.marks.marks (names_in l.block);
  changes : AreLinkChanges l.standing.items;
  within : l.k ≤ length l.standing.items;
  fewer : length l.standing.items ≤ length l.initial.standing.items;
  listed : (change : TheChange) → Contains l.standing.items change → Contains l.initial.standing.items change;
  same : length l.standing.items ≡ length l.initial.standing.items → (l.block ≡ l.initial.block) × (l.standing.items ≡ l.initial.standing.items);
  way : (changes waiting : List TheChange) (front back old : List Link) → IsUnderWay changes l.initial.standing.items waiting front (front ++ names_in l.initial.block ++ back) old
      → IsUnderWay changes l.standing.items waiting front (front ++ names_in l.block ++ back) old × AreGone (take l.k l.standing.items) (names_in l.block);
}

abbrev pub decreases-loop-k : goal.decreases-loop-k
decreases-loop-k l = length l.standing.items - l.k
