use Rattle.std.proofs.Common.{◌≡◌, ◌*◌, ◌<◌, length, IsTrue}
use Rattle.std.specs.Prelude.{◌^◌}
use Rattle.sn_block.specs.Lending.{device_of}
use Rattle.sn_tree.specs.Dirty.{IsFrom}
use Rattle.sn_tree.specs.Fronts.{Aim, AreHolesFrom, PlannedFront}
use Rattle.sn_tree.proofs.levels.raised.Given as goal

abbrev pub invariant-loop-depth : goal.invariant-loop-depth
invariant-loop-depth g l = record {
  same : IsTrue g.D.Device.tells_bytes → g.D.Device.disk (device_of l.blocks) ≡ g.D.Device.disk (device_of l.fn.blocks);
  status : g.D.Device.status (device_of l.blocks) ≡ g.D.Device.status (device_of l.fn.blocks);
  count : length l.raised ≡ 16;
  rise : IsFrom (16 * 1024 ^ l.depth) l.dirty.items;
  planned : (aim : Aim) → (l.fn.from < l.fn.levels → AreHolesFrom (16 * 1024 ^ l.fn.from) aim.old)
      → PlannedFront (IsTrue g.D.Device.tells_bytes) aim l.fn.from (16 * 1024 ^ l.fn.from) l.fn.dirty.items l.fn.pointers l.fn.build
      → PlannedFront (IsTrue g.D.Device.tells_bytes) aim l.depth (16 * 1024 ^ l.depth) l.dirty.items l.raised l.build;
}
