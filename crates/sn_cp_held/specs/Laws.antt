-- What the beginning of a point leaves of the world.
use Rattle.std.specs.Prelude.{Result, OnOk}
use Rattle.sn_device.specs.Disk.{Disk}
use Rattle.sn_device.specs.Crash.{LeavesOnly}
use Rattle.sn_block.specs.declared.fault.ReadFault.{ReadFault}
use Rattle.sn_model.specs.Settling.{settle}
use Rattle.sn_model.specs.World.{World}
use Rattle.sn_held.specs.Held.{Held, IsBetween, Runs}
use Rattle.sn_held.specs.Images.{IsImage}
use Rattle.sn_cp.specs.Beginning.{Begins}
use Rattle.sn_cp_held.specs.Wholes.{HasBegun}

-- A point begins: whatever the answer, a crash at any moment leaves an image of the settled world. At `Ok` it has begun.
abbrev pub BeginningsLeaveTheWorld : Type 0
BeginningsLeaveTheWorld = (h : Held) (world : World) (r : Runs h world) (result : Result (Unit {0}) ReadFault) (d : Disk) → IsBetween h world r → Begins h.at result h.disk d
    → LeavesOnly h.disk d (λ c. IsImage c (settle world)) × OnOk result (HasBegun h world r d)
