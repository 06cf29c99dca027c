use Rattle.std.proofs.Common.{◌≡◌, ◌+◌, ◌++◌, ◌-◌, ◌≤◌, List, length, take}
use Rattle.std.specs.Prelude.{Contains}
use Rattle.sn_layout_node.specs.Directory.{Link, IsDirectoryBlock, links_bytes}
use Rattle.sn_image.specs.Names.{names_in}
use Rattle.sn_dir_change.specs.Changes.{AreLinkChanges}
use Rattle.sn_dir_change.specs.UnderWay.{AreFull, AreGone, IsLinkFrom, IsUnderWay}
use Rattle.sn_dir_change.specs.declared.name_change.NameChange.{NameChange as TheChange}
use Rattle.sn_dir_change.proofs.pass.put_waiting.Given as goal

abbrev pub invariant-loop-k : goal.invariant-loop-k
invariant-loop-k l = record {
  block : IsDirectoryBlock l.block;
  room : 4096 ≤ length (links_bytes (names_in l.block)) + l.room;
  changes : AreLinkChanges l.waiting.items;
  within : l.k ≤ length l.waiting.items;
  fewer : length l.waiting.items ≤ length l.initial.waiting.items;
  more : length (names_in l.initial.block) ≤ length (names_in l.block);
  same : length l.waiting.items ≡ length l.initial.waiting.items → (l.block ≡ l.initial.block) × (l.waiting.items ≡ l.initial.waiting.items);
  full : AreFull (take l.k l.waiting.items) (names_in l.block);
  from : (link : Link) → Contains (names_in l.block) link → IsLinkFrom l.initial.waiting.items (names_in l.initial.block) link;
  listed : (change : TheChange) → Contains l.waiting.items change → Contains l.initial.waiting.items change;
  way : (changes standing : List TheChange) (front back old : List Link) → IsUnderWay changes standing l.initial.waiting.items front (front ++ names_in l.initial.block ++ back) old → AreGone standing (names_in l.initial.block)
      → IsUnderWay changes standing l.waiting.items front (front ++ names_in l.block ++ back) old × AreGone standing (names_in l.block);
}

abbrev pub decreases-loop-k : goal.decreases-loop-k
decreases-loop-k l = length l.waiting.items - l.k
