-- What a mount makes of the root of an image.
use Rattle.std.proofs.Common.{◌≡◌, ℕ, ◌++◌, Bool, true, false, List, length, sym, ap, subst, ◌∙◌}
use Rattle.sn_device.specs.Sectors.{Contents}
use Rattle.sn_device.specs.declared.status.Status.{Status}
use Rattle.sn_image.specs.Image.{image}
use Rattle.sn_layout.specs.declared.geometry.Slot.{Slot}
use Rattle.sn_layout.specs.declared.root.RootBody.{RootBody}
use Rattle.sn_layout.specs.Geometry.{other_slot}
use Rattle.sn_limits.specs.declared.limits.Limits.{Limits}
use Rattle.sn_log.specs.Positions.{LogPosition}
use Rattle.sn_model.specs.declared.change.Change.{Change}
use Rattle.sn_model.specs.Tree.{Tree}
use Rattle.sn_model.specs.World.{World}
use Rattle.sn_ondisk.specs.MapCopy.{HasMap}
use Rattle.sn_ondisk.specs.Trees.{store_of}
use Rattle.sn_overlay.specs.Layers.{Layer}
use Rattle.sn_held.specs.Rooms.{RoomCounts}
use Rattle.sn_root.specs.declared.following.PointKind.TheVariants.{Recovery}
use Rattle.sn_held.specs.Held.{Kept}
use Rattle.sn_held.specs.Images.{IsImage}
use Rattle.sn_cp_held.specs.Wholes.{IsFollowing}
use Rattle.sn_cp_whole.specs.Planning.{kept_in}
use Rattle.sn_cp_whole.specs.declared.base.PointBase.{PointBase}
use Rattle.sn_examine.specs.Ages.{TellsRecovery}
use Rattle.sn_examine.specs.Both.{HasBoth}
use Rattle.sn_examine.specs.Finding.{HasFound}
use Rattle.sn_examine.proofs.FindLemmas.{IsSameRoot, image_changes, same_root}
use Rattle.sn_mount.specs.Costs.{CostsFound}
use Rattle.sn_mount.specs.Rooting.{BecomesRoot, MountsRoot}

-- it does so whatever else is kept of either root
becomes_alike : (recovers : Bool) (old other : Kept) (next : PointBase) (l m : Layer) → old.slot ≡ other.slot → old.root ≡ other.root → old.words ≡ other.words → BecomesRoot recovers old (kept_in next l) → BecomesRoot recovers other (kept_in next m)
becomes_alike false old other next l m slots roots words b = (b.0 ∙ slots, b.1 ∙ roots, b.2 ∙ words)
becomes_alike true old other next l m slots roots words b = (b.0 ∙ ap other_slot slots, subst (λ (r : RootBody). IsFollowing Recovery r next.root) roots b.1)

-- the records that were found, one after the other
abbrev all_of : {limits : Limits} {c : Contents} {from : Tree} {n epoch : ℕ} {at : LogPosition} {tree : Tree} {charges : ℕ} → HasBoth limits c from n epoch at tree charges → List Change
all_of both = both.has_older.all.replayed.changes ++ both.has_newer.all.replayed.changes

-- they are those of the image
recovery_of : (c : Contents) (w : World) (im : IsImage c w) (at : LogPosition) (tree : Tree) (charges : ℕ) (recovers : Bool) (n : ℕ) (root : RootBody) → im.blocks ≡ n → im.opens.root ≡ root → (both : HasBoth root.limits c (image (store_of c) root.inode_file) n root.epoch at tree charges)
    → TellsRecovery recovers root (all_of both) (image (store_of c) root.inode_file) → TellsRecovery recovers im.opens.root (im.opens.older ++ im.opens.newer) (image (store_of c) im.opens.root.inode_file)
recovery_of c w im at tree charges recovers n root in_n is both tells =
    let its = im.opens.root in
    let here = subst (λ (m : ℕ). (b : HasBoth its.limits c (image (store_of c) its.inode_file) m its.epoch at tree charges) × TellsRecovery recovers its (all_of b) (image (store_of c) its.inode_file)) (sym in_n)
    (subst (λ (r : RootBody). (b : HasBoth r.limits c (image (store_of c) r.inode_file) n r.epoch at tree charges) × TellsRecovery recovers r (all_of b) (image (store_of c) r.inode_file)) (sym is) (both, tells)) in
    subst (λ (xs : List Change). TellsRecovery recovers its xs (image (store_of c) its.inode_file)) (image_changes c w im at tree charges here.0) here.1

module _ (sectors : ℕ) (c : Contents) (k : Kept) (at : LogPosition) (shown : Tree) (room : RoomCounts) (recovers : Bool) (f : HasFound sectors c k at shown room recovers) (count : length c ≡ sectors) (w : World) (im : IsImage c w) where
  same : IsSameRoot c at.blocks k.slot k.root w im
  same = same_root sectors c at.blocks k.slot k.root w im count f.roots.formatted f.roots.newest

  words_same : k.words ≡ im.words
  words_same = f.words im.words (subst (λ (s : Slot). HasMap at.blocks c s im.words) same.slots (subst (λ (n : ℕ). HasMap n c im.opens.slot im.words) same.blocks im.map))

  pub mounts_root : (base : PointBase) (l m : Layer) (old new : Status) → BecomesRoot recovers k (kept_in base l) → CostsFound recovers at.blocks old new → MountsRoot c w im (kept_in base m) old new
  mounts_root base l m old new becomes costs = record {
    recovers = recovers;
    tells = recovery_of c w im at shown f.charges recovers at.blocks k.root same.blocks same.roots f.both f.recovery;
    root = becomes_alike recovers k _ base l m (sym same.slots) (sym same.roots) words_same becomes;
    costs = subst (λ (n : ℕ). CostsFound recovers n old new) (sym same.blocks) costs;
  }

-- what is found is kept up to the making of the root
pub becomes_found : (recovers : Bool) (k : Kept) (base next : PointBase) (l m : Layer) → base.slot ≡ k.slot → base.root ≡ k.root → base.map ≡ k.words → BecomesRoot recovers (kept_in base l) (kept_in next m) → BecomesRoot recovers k (kept_in next m)
becomes_found recovers k base next l m slots roots words becomes = becomes_alike recovers (kept_in base l) k next m m slots roots words becomes
