use Rattle.std.proofs.Common.{◌≡◌, ℕ, ◌-◌, ◌/◌, ◌≤◌, List, [], IsTrue}
use Rattle.sn_device.specs.Disk.{reads}
use Rattle.sn_block.specs.Lending.{device_of}
use Rattle.sn_ondisk.specs.Trees.{store_of}
use Rattle.sn_dir_change.specs.Changes.{AreLinkChanges}
use Rattle.sn_dir_change.specs.Filter.{Covers}
use Rattle.sn_dir_change.specs.Through.{IsThrough}
use Rattle.sn_dir_change.specs.declared.name_change.NameChange.{NameChange as TheChange}
use Rattle.sn_dir_change.proofs.through.pass_blocks.Given as goal

abbrev pub invariant-loop-i : goal.invariant-loop-i
invariant-loop-i g l = record {
  status : g.D.Device.status (device_of l.blocks) ≡ g.D.Device.status (device_of l.initial.blocks);
  same : IsTrue g.D.Device.tells_bytes → g.D.Device.disk (device_of l.blocks) ≡ g.D.Device.disk (device_of l.initial.blocks);
  standing : AreLinkChanges l.pending.standing.items;
  waiting : AreLinkChanges l.pending.waiting.items;
  within : l.i ≤ l.tree.size / 4096;
  -- the changes that are left are among those that the filter was made for
  covers : Covers l.filter.prints.items l.filter.least l.pending.standing.items l.pending.waiting.items;
  through : (changes : List TheChange) (bound : ℕ)
      → IsThrough (IsTrue g.D.Device.tells_bytes) (store_of (reads (g.D.Device.disk (device_of l.initial.blocks)))) l.tree changes bound 0 [] l.initial.pending.standing.items l.initial.pending.waiting.items
      → IsThrough (IsTrue g.D.Device.tells_bytes) (store_of (reads (g.D.Device.disk (device_of l.initial.blocks)))) l.tree changes bound l.i l.dirty.items l.pending.standing.items l.pending.waiting.items;
}

abbrev pub decreases-loop-i : goal.decreases-loop-i
decreases-loop-i g l = l.tree.size / 4096 - l.i
