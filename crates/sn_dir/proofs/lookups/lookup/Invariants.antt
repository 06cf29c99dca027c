use Rattle.std.proofs.Common.{◌≤◌, ◌-◌}
use Rattle.sn_block.specs.Lending.{device_of}
use Rattle.sn_dir.proofs.SeenLemmas.{IsLooking}
use Rattle.sn_dir.proofs.lookups.lookup.Given as goal

abbrev pub invariant-loop-i : goal.invariant-loop-i
invariant-loop-i g l = record {
  within : l.i ≤ l.count;
  looking : IsLooking g.D.Device.tells_bytes l.tree l.name (g.D.Device.status (device_of l.fn.blocks)) (g.D.Device.status (device_of l.blocks)) (g.D.Device.disk (device_of l.fn.blocks)) (g.D.Device.disk (device_of l.blocks)) l.i;
}

abbrev pub decreases-loop-i : goal.decreases-loop-i
decreases-loop-i g l = l.count - l.i
