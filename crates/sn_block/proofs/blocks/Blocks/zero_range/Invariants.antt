use Rattle.std.proofs.Common.{◌*◌, replicate}
use Rattle.sn_block.specs.Lending.{device_of}
use Rattle.sn_block.proofs.StretchLemmas.{IsWriting}
use Rattle.sn_block.proofs.blocks.Blocks.zero_range.Given as goal

abbrev pub invariant-loop-i : goal.invariant-loop-i
invariant-loop-i g l =
    IsWriting g.D.Device.tells_bytes l.at l.count l.i (replicate (512 * l.i) 0) (g.D.Device.status (device_of l.initial.self)) (g.D.Device.status (device_of l.self)) (g.D.Device.disk (device_of l.initial.self)) (g.D.Device.disk (device_of l.self))
