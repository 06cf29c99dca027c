-- What is charged on top of a root, and what is left of its free blocks.
use Rattle.std.specs.Prelude.{◌≡◌, ℕ, ◌+◌, ◌*◌, ◌≤◌, List, ◌++◌}
use Rattle.sn_device.specs.Sectors.{Contents}
use Rattle.sn_layout.specs.declared.root.RootBody.{RootBody}
use Rattle.sn_limits.specs.Versions.{limits_written}
use Rattle.sn_model.specs.declared.change.Change.{Change}
use Rattle.sn_model.specs.Charges.{charge_for}
use Rattle.sn_model.specs.Tree.{Tree}
use Rattle.sn_model.specs.World.{World}
use Rattle.sn_ondisk.specs.Trees.{Store, store_of}
use Rattle.sn_model.specs.Settling.{nameless_in}
use Rattle.sn_held.specs.Rooms.{RoomCounts, mounted, parked}
use Rattle.sn_image.specs.Image.{image}
use Rattle.sn_sound.specs.Charges.{Fits, charges_from}
use Rattle.sn_sound.specs.Maps.{free_blocks}
use Rattle.sn_held.specs.Images.{IsImage}

-- The room that is kept is that of a root with these changes logged on top of it, which make this live tree: they are charged, no more than
-- the root leaves free, and each file that the root's tree has without a name is still live without one, or was dropped.
pub record IsCharged (room : RoomCounts) (n : ℕ) (s : Store) (root : RootBody) (changes : List Change) (live : Tree) : Type 0 where
  pub free : room.free ≡ free_blocks n s root
  pub charged : room.charged ≡ charges_from limits_written changes (image s root.inode_file)
  pub parked : nameless_in (image s root.inode_file) ≤ parked room (nameless_in live)
  pub fits : Fits limits_written changes (image s root.inode_file) room.free

-- After a change of this tree all that is charged, with a charge for each parked file, is still no more than is free.
abbrev pub HasRoomFor : RoomCounts → Tree → Change → Type 0
HasRoomFor room tree change = room.charged + charge_for limits_written tree change + limits_written.inode_charge * parked room (nameless_in tree) ≤ room.free

-- What a mount keeps of an image: its records are charged, and the files that its root's tree has without names are dropped.
abbrev pub room_of_image : (c : Contents) (world : World) → IsImage c world → RoomCounts
room_of_image c world im = mounted (free_blocks im.blocks (store_of c) im.opens.root)
    (charges_from im.opens.root.limits (im.opens.older ++ im.opens.newer) (image (store_of c) im.opens.root.inode_file))
    (nameless_in (image (store_of c) im.opens.root.inode_file))

abbrev pub HasRoomOf : Contents → World → RoomCounts → Type 0
HasRoomOf c world room = (im : IsImage c world) × (room ≡ room_of_image c world im)
