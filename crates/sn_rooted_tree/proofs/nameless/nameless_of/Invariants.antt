use Rattle.std.proofs.Common.{◌≡◌, ◌≤◌, IsTrue}
use Rattle.sn_block.specs.Lending.{device_of}
use Rattle.sn_rooted.specs.Roots.{IsSoundOn, tree_on}
use Rattle.sn_rooted_tree.proofs.NamelessLemmas.{nameless_below}
use Rattle.sn_rooted_tree.proofs.nameless.nameless_of.Given as goal

-- the files without names below a number are counted
abbrev pub invariant-loop-number : goal.invariant-loop-number
invariant-loop-number g l = record {
  counted : IsTrue g.D.Device.tells_bytes → IsSoundOn l.fn.blocks l.limits l.file → l.count ≡ nameless_below (tree_on l.fn.blocks l.file) l.number;
  few : l.count ≤ l.number;
  same : IsTrue g.D.Device.tells_bytes → g.D.Device.disk (device_of l.blocks) ≡ g.D.Device.disk (device_of l.fn.blocks);
  status : g.D.Device.status (device_of l.blocks) ≡ g.D.Device.status (device_of l.fn.blocks);
}
