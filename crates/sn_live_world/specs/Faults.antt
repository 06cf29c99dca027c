-- What a fault is reported as, and what it does to the counts of a device.
use Rattle.std.specs.Prelude.{◌≡◌, ◌⊎◌, Bool, IsTrue, Result, Ok, Err}
use Rattle.sn_block.specs.Counts.{FailsRead}
use Rattle.sn_block.specs.declared.fault.ReadFault.TheVariants as read
use Rattle.sn_device.specs.declared.status.Status.{Status}
use Rattle.sn_live_world.specs.declared.fault.CallFault.{CallFault}
use Rattle.sn_live_world.specs.declared.fault.CallFault.TheVariants as call
use Rattle.sn_live_world.specs.declared.fault.LookFault.{LookFault}
use Rattle.sn_live_world.specs.declared.fault.LookFault.TheVariants as look
use Rattle.sn_tree_read.specs.declared.fault.TreeFault.{TreeFault}
use Rattle.sn_tree_read.specs.declared.fault.TreeFault.TheVariants as tree

-- what a fault of a root's tree is reported as
abbrev pub look_fault_of : TreeFault → LookFault
look_fault_of (tree.Read read.Memory) = look.Memory
look_fault_of (tree.Read read.Device) = look.Read
look_fault_of (tree.Damaged block) = look.Read

-- and where a call finds it
abbrev pub call_fault_of : LookFault → CallFault
call_fault_of look.Memory = call.Memory
call_fault_of look.Read = call.Read

-- A block couldn't be read. Or it was misspelt: then nothing is counted, and the device doesn't tell its bytes.
abbrev pub CountsUnread : Bool → Status → Status → Type 0
CountsUnread told old new = FailsRead old new ⊎ ((new ≡ old) × (IsTrue told → ⊥))

abbrev pub CountsLookFault : Bool → LookFault → Status → Status → Type 0
CountsLookFault told look.Memory old new = new ≡ old
CountsLookFault told look.Read old new = CountsUnread told old new

abbrev pub CountsCallFault : Bool → CallFault → Status → Status → Type 0
CountsCallFault told (call.Refused r) old new = new ≡ old
CountsCallFault told call.Memory old new = new ≡ old
CountsCallFault told call.Read old new = CountsUnread told old new

-- Nothing is counted but that a read failed.
abbrev pub CountsLook : {T : Type 0} → Bool → Result T LookFault → Status → Status → Type 0
CountsLook told (Ok x) old new = new ≡ old
CountsLook told (Err f) old new = CountsLookFault told f old new

abbrev pub CountsCall : {T : Type 0} → Bool → Result T CallFault → Status → Status → Type 0
CountsCall told (Ok x) old new = new ≡ old
CountsCall told (Err f) old new = CountsCallFault told f old new
