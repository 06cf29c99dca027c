use Rattle.std.proofs.Common.{◌≡◌, ◌≤◌, IsTrue}
use Rattle.sn_block.specs.Lending.{device_of}
use Rattle.sn_rooted.specs.Roots.{IsSoundOn, tree_on}
use Rattle.sn_rooted_tree.proofs.NumberingLemmas.{AreNoted}
use Rattle.sn_rooted_tree.specs.Numbering.{KeepsNone}
use Rattle.sn_rooted_tree.proofs.numbers.numbers_of.Given as goal

-- the numbers below a number are noted
abbrev pub invariant-loop-number : goal.invariant-loop-number
invariant-loop-number g l = record {
  noted : IsTrue g.D.Device.tells_bytes → IsSoundOn l.fn.blocks l.limits l.file → AreNoted (tree_on l.fn.blocks l.file) l.number l.numbers;
  few : l.numbers.nameless ≤ l.number;
  keeps : KeepsNone l.numbers;
  same : IsTrue g.D.Device.tells_bytes → g.D.Device.disk (device_of l.blocks) ≡ g.D.Device.disk (device_of l.fn.blocks);
  status : g.D.Device.status (device_of l.blocks) ≡ g.D.Device.status (device_of l.fn.blocks);
}
