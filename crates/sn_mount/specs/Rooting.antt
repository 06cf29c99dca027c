-- What a mount makes of the root that it finds.
use Rattle.std.specs.Prelude.{◌≡◌, ◌++◌, Bool, true, false}
use Rattle.sn_device.specs.Sectors.{Contents}
use Rattle.sn_device.specs.declared.status.Status.{Status}
use Rattle.sn_image.specs.Image.{image}
use Rattle.sn_layout.specs.Geometry.{other_slot}
use Rattle.sn_model.specs.World.{World}
use Rattle.sn_ondisk.specs.Trees.{store_of}
use Rattle.sn_overlay.specs.Overlays.{no_changes}
use Rattle.sn_root.specs.declared.following.PointKind.TheVariants.{Recovery}
use Rattle.sn_held.specs.Held.{Kept}
use Rattle.sn_held.specs.Images.{IsImage}
use Rattle.sn_cp_held.specs.Wholes.{IsFollowing}
use Rattle.sn_examine.specs.Ages.{TellsRecovery}
use Rattle.sn_mount.specs.Costs.{CostsFound}

-- The root stays with its map where nothing is to recover; else the one that follows is in the other slot, two epochs on.
abbrev pub BecomesRoot : Bool → Kept → Kept → Type 0
BecomesRoot false old new = (new.slot ≡ old.slot) × (new.root ≡ old.root) × (new.words ≡ old.words)
BecomesRoot true old new = (new.slot ≡ other_slot old.slot) × IsFollowing Recovery old.root new.root

-- A mount of an image makes a point exactly where the root isn't of the written version, a record was replayed, or a file without
-- names dropped, and that determines root and cost.
pub record MountsRoot (c : Contents) (world : World) (im : IsImage c world) (base : Kept) (old new : Status) : Type 0 where
  pub recovers : Bool
  pub tells : TellsRecovery recovers im.opens.root (im.opens.older ++ im.opens.newer) (image (store_of c) im.opens.root.inode_file)
  pub root : BecomesRoot recovers (record { slot = im.opens.slot; root = im.opens.root; words = im.words; changed = no_changes }) base
  pub costs : CostsFound recovers im.blocks old new
