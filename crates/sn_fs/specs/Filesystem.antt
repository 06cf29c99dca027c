-- A mounted file system as what it holds.
use Rattle.std.specs.Prelude.{Bool, Some}
use Rattle.sn_device.specs.declared.device.Device.{Ghosts}
use Rattle.sn_fs.specs.declared.fs.Fs.{Fs}
use Rattle.sn_cp_whole.specs.declared.going.GoingPoint.{GoingPoint}
use Rattle.sn_held.specs.Held.{Held}
use Rattle.sn_events.specs.Mounted.{IsMounted, holding, tree_at}
use Rattle.sn_model.specs.Tree.{Tree}
use Rattle.sn_block.specs.Lending.{device_of}

module _ {D : Type 0} {g : Ghosts D} where
  abbrev pub held : Fs D g → Held
  held fs = holding g fs.blocks fs.log fs.world fs.room fs.base fs.going

  -- the same with this point in progress
  abbrev pub with_point : Fs D g → GoingPoint → Fs D g
  with_point fs going = record fs { going = Some going }

  -- the tree of its root, as the disk has it
  abbrev pub tree_of : Fs D g → Tree
  tree_of fs = tree_at (g.disk (device_of fs.blocks)) fs.base.root

  abbrev pub has_stopped : Fs D g → Bool
  has_stopped fs = fs.has_stopped

  -- what holds of it before and after each call
  abbrev pub IsFs : Fs D g → Type 0
  IsFs fs = IsMounted g.tells_bytes (g.disk (device_of fs.blocks)) (g.status (device_of fs.blocks)) fs.log fs.world fs.room fs.base fs.going fs.has_stopped
