use Rattle.std.proofs.Common.{◌≡◌, IsTrue, map, take}
use Rattle.sn_device.specs.Disk.{reads}
use Rattle.sn_block.specs.Lending.{device_of}
use Rattle.sn_layout_node.specs.declared.content.Content.TheVariants.{Tree}
use Rattle.sn_ondisk.specs.Trees.{store_of}
use Rattle.sn_image.specs.Names.{names_of}
use Rattle.sn_dir_change.specs.Standing.{change_of, seen}
use Rattle.sn_dir_change.proofs.standing.seek_each.Given as goal

abbrev pub invariant-loop-change : goal.invariant-loop-change
invariant-loop-change g l = record {
  status : g.D.Device.status (device_of l.blocks) ≡ g.D.Device.status (device_of l.initial.blocks);
  same : IsTrue g.D.Device.tells_bytes → g.D.Device.disk (device_of l.blocks) ≡ g.D.Device.disk (device_of l.initial.blocks);
  sought : IsTrue g.D.Device.tells_bytes → l.sought.items
      ≡ map (seen (names_of (store_of (reads (g.D.Device.disk (device_of l.initial.blocks)))) (Tree l.tree))) (take l.change-index l.changes);
  listed : map change_of l.sought.items ≡ take l.change-index l.changes;
}
