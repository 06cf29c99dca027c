-- A new root on what a mount has replayed.
use Rattle.std.specs.Prelude.{◌≡◌, [], ◌++◌, Result, OnOk}
use Rattle.sn_changed.specs.Changed.{HasChanged}
use Rattle.sn_device.specs.Sectors.{AreSectors}
use Rattle.sn_device.specs.Disk.{Disk, IsSynced, reads}
use Rattle.sn_device.specs.Crash.{LeavesOnly}
use Rattle.sn_device.specs.declared.fault.Fault.{Fault}
use Rattle.sn_image.specs.Image.{image}
use Rattle.sn_layout.specs.declared.gate.Gate.{Gate}
use Rattle.sn_layout.specs.declared.root.RootBody.{RootBody}
use Rattle.sn_limits.specs.Versions.{limits_written}
use Rattle.sn_model.specs.NameTree.{IsTree}
use Rattle.sn_model.specs.declared.outcome.AskedPoint.TheVariants.{Plain}
use Rattle.sn_model.specs.World.{World}
use Rattle.sn_ondisk.specs.Trees.{store_of}
use Rattle.sn_root.specs.declared.following.PointKind.TheVariants.{Recovery}
use Rattle.sn_sound.specs.Charges.{charges_from}
use Rattle.sn_held.specs.Images.{IsImage}
use Rattle.sn_held.specs.Held.{Kept}
use Rattle.sn_cp.specs.Points.{Work}
use Rattle.sn_cp.specs.Showing.{Finishes}
use Rattle.sn_cp_build.specs.declared.building.Built.{Built}
use Rattle.sn_cp_held.specs.Builds.{IsBuiltOf, work_for}

-- A disk is an image of this world, and nothing is unsynced. What is kept is its root, with what its records changed and what was dropped since, charged under the root's limits.
pub record HasReplayed (d : Disk) (world : World) (im : IsImage (reads d) world) (k : Kept) : Type 0 where
  pub synced : IsSynced d
  pub slot : k.slot ≡ im.opens.slot
  pub root : k.root ≡ im.opens.root
  pub words : k.words ≡ im.words
  pub changed : HasChanged k.root.limits k.changed (image (store_of (reads d)) im.opens.root.inode_file) world.live (charges_from k.root.limits (im.opens.older ++ im.opens.newer) (image (store_of (reads d)) im.opens.root.inode_file))
  pub tree : IsTree limits_written world.live

-- It is one whose root is the point's, on which nothing is logged, and whose tree is the live one.
pub record IsRecovered (d : Disk) (world : World) (w : Work) : Type 0 where
  pub live : image (store_of (reads d)) w.plan.next.inode_file ≡ world.live
  pub image : IsImage (reads d) world
  pub blocks : image.blocks ≡ w.blocks
  pub slot : image.opens.slot ≡ w.slot
  pub root : image.opens.root ≡ w.plan.next
  pub words : image.words ≡ w.plan.words
  pub older : image.opens.older ≡ []
  pub newer : image.opens.newer ≡ []
  pub synced : IsSynced d

-- A point two epochs on, under the written limits, is made of it, which begins with no clearing: whatever the answer, a crash at any moment leaves an image of the world. At `Ok` the next root counts, and replay finds nothing.
abbrev pub RecoveriesLeaveTheWorld : Type 0
RecoveriesLeaveTheWorld = (old new : Disk) (world : World) (im : IsImage (reads old) world) (k : Kept) (gate : Gate) (built : Built) (next : RootBody) (result : Result (Unit {0}) Fault) → HasReplayed old world im k
    → IsBuiltOf im.blocks (reads old) Recovery k k.root.inode_file Plain 0 built next → AreSectors (reads new) → Finishes (work_for im.blocks k gate built next) result old new
    → LeavesOnly old new (λ c. IsImage c world) × OnOk result (IsRecovered new world (work_for im.blocks k gate built next))
