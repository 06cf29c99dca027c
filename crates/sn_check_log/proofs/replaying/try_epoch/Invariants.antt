use Rattle.std.proofs.Common.{◌≡◌, ◌+◌, ◌-◌, ◌*◌, ◌^◌, ◌≤◌, if◌then◌else◌}
use Rattle.std.specs.Prelude.{IsTrue}
use Rattle.sn_device.specs.Disk.{reads}
use Rattle.sn_block.specs.Lending.{device_of}
use Rattle.sn_rooted.specs.Roots.{tree_on}
use Rattle.sn_examine.specs.Replaying.{LeadsOn, ReplaysSo}
use Rattle.sn_check_log.specs.Trying.{HasNoPointIf, IsTried, KeepsNoneIf, changes_if, tree_of}
use Rattle.sn_check_log.proofs.replaying.try_epoch.Given as goal

-- the records so far were tried, and where there are no more, all
abbrev pub invariant-loop-more : goal.invariant-loop-more
invariant-loop-more g l = record {
  replayed : IsTrue g.D.Device.tells_bytes → ReplaysSo l.fn.it.root.now.limits l.more (reads (g.D.Device.disk (device_of l.fn.blocks))) (tree_of l.fn.live (tree_on l.fn.blocks l.fn.it.root.now.inode_file)) l.replay (tree_of l.live (tree_on l.fn.blocks l.fn.it.root.now.inode_file)) l.charges;
  changed : IsTrue g.D.Device.tells_bytes → LeadsOn l.fn.it.root.now.limits (changes_if l.fn.live) (tree_of l.fn.live (tree_on l.fn.blocks l.fn.it.root.now.inode_file)) 0 (changes_if l.live) (tree_of l.live (tree_on l.fn.blocks l.fn.it.root.now.inode_file)) l.charges;
  tried : IsTrue g.D.Device.tells_bytes → IsTried l.live (tree_on l.fn.blocks l.fn.it.root.now.inode_file);
  point : HasNoPointIf l.live;
  keeps : IsTrue g.D.Device.tells_bytes → KeepsNoneIf l.live;
  few : l.charges ≤ 2 ^ 64 * l.replay.place;
  blocks : l.replay.blocks ≡ l.fn.it.geometry;
  epoch : l.replay.epoch ≡ l.fn.epoch;
  same : IsTrue g.D.Device.tells_bytes → g.D.Device.disk (device_of l.blocks) ≡ g.D.Device.disk (device_of l.fn.blocks);
  status : g.D.Device.status (device_of l.blocks) ≡ g.D.Device.status (device_of l.fn.blocks);
}

abbrev pub decreases-loop-more : goal.decreases-loop-more
decreases-loop-more g l = 256 - l.replay.place + (if l.more then 1 else 0)
