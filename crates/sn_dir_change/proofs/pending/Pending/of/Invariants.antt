use Rattle.std.proofs.Common.{◌≡◌, ◌+◌, ◌≤◌, List, length, map, take}
use Rattle.sn_layout_node.specs.Directory.{Link}
use Rattle.sn_dir_change.specs.Changes.{AreLinkChanges, ArePuts, needed_changes}
use Rattle.sn_dir_change.specs.Standing.{seen}
use Rattle.sn_dir_change.specs.UnderWay.{AreParted}
use Rattle.sn_dir_change.specs.declared.name_change.NameChange.{NameChange as TheChange}
use Rattle.sn_dir_change.proofs.pending.Pending.of.Given as goal

abbrev pub invariant-loop-sought : goal.invariant-loop-sought
invariant-loop-sought l = record {
  few : length l.pending.standing.items + length l.pending.waiting.items ≤ l.sought-index;
  needed : (names : List Link) (changes : List TheChange) → l.list ≡ map (seen names) changes
      → length l.pending.standing.items + length l.pending.waiting.items ≤ needed_changes names (take l.sought-index changes);
  standing : AreLinkChanges l.pending.standing.items;
  waiting : AreLinkChanges l.pending.waiting.items;
  puts : ArePuts l.pending.waiting.items;
  parted : (names : List Link) (changes : List TheChange) → l.list ≡ map (seen names) changes
      → AreParted names (take l.sought-index changes) l.pending.standing.items l.pending.waiting.items;
}
