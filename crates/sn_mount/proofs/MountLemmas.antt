-- A mount as a whole: what it has read, the root that it makes, and what holds once the first place of that root's log is cleared.
use Rattle.std.proofs.Common.{◌≡◌, ℕ, ◌+◌, Bool, true, false, None, Result, Ok, refl, sym, ap, subst, ◌∙◌, arith}
use Rattle.std.specs.Prelude.{IfOk}
use Rattle.sn_alloc.specs.Taking.{free_data}
use Rattle.sn_device.specs.Sectors.{AreSectors, Contents, Single}
use Rattle.sn_device.specs.Disk.{Always, Disk, IsSynced, reads}
use Rattle.sn_device.specs.Crash.{LeavesOnly, Touches}
use Rattle.sn_device.specs.declared.status.Status.{Status}
use Rattle.sn_device.proofs.CrashLemmas.{LeavesOnly-join, Touches-join, Touches-within}
use Rattle.sn_block.specs.Effects.{Nowhere}
use Rattle.sn_layout.specs.declared.geometry.Area.TheVariants.{Data}
use Rattle.sn_layout.specs.declared.root.RootBody.{RootBody}
use Rattle.sn_layout.specs.Geometry.{start_of}
use Rattle.sn_limits.specs.Versions.{limits_written}
use Rattle.sn_limits.proofs.VersionLemmas.{written_allows}
use Rattle.sn_log.specs.Clearing.{Clears}
use Rattle.sn_log.specs.Positions.{LogPosition, first_of}
use Rattle.sn_model.specs.declared.fault.MountFault.{MountFault}
use Rattle.sn_model.specs.NameTree.{IsTree}
use Rattle.sn_model.specs.Settling.{settled}
use Rattle.sn_model.specs.Tree.{Tree}
use Rattle.sn_model.specs.World.{World, new_world}
use Rattle.sn_model.specs.Worlds.{IsWorld}
use Rattle.sn_ondisk.specs.Gates.{IsClosed}
use Rattle.sn_ondisk.specs.LogHalf.{InHalf, base_of, cleared_sector}
use Rattle.sn_ondisk.specs.Trees.{store_of}
use Rattle.sn_image.specs.Image.{image}
use Rattle.sn_opening.specs.Opens.{Opens}
use Rattle.sn_opening.specs.Worlds.{found, frozen_of}
use Rattle.sn_overlay.specs.Layers.{Layer}
use Rattle.sn_overlay.specs.Overlays.{no_changes}
use Rattle.sn_held.specs.Rooms.{RoomCounts, fresh}
use Rattle.sn_rooted.specs.Roots.{trees_at}
use Rattle.sn_sound.specs.Disks.{IsOfDevice}
use Rattle.sn_sound.proofs.DiskLemmas.{one_size}
use Rattle.sn_sound.proofs.WorldLemmas.{opens_to_found}
use Rattle.sn_held.specs.Held.{Kept, RunsReady}
use Rattle.sn_held.specs.Images.{IsImage}
use Rattle.sn_cp_whole.specs.Planning.{kept_in}
use Rattle.sn_cp_whole.specs.Recovering.{IsApart, IsImageOver}
use Rattle.sn_cp_whole.specs.declared.base.PointBase.{PointBase}
use Rattle.sn_cp_whole.proofs.RecoverLemmas.{half_apart}
use Rattle.sn_examine.specs.Finding.{HasFound}
use Rattle.sn_examine.specs.Laws.{IsSomeClean}
use Rattle.sn_examine.proofs.ImageLemmas.{clean_image}
use Rattle.sn_check.specs.Verdicts.{IsCause}
use Rattle.sn_mount.specs.Recovering.{IsRecovered, KeepsTheRoot, LeavesTheWorld, WritesAtFault}
use Rattle.sn_mount.specs.Rooting.{BecomesRoot}
use Rattle.sn_mount.specs.Settling.{IsNoRoot, MakesRoot, SettlesChanges}
use Rattle.sn_mount.proofs.AllowedLemmas.{world_stays}
use Rattle.sn_mount.proofs.CauseLemmas.{refused_cause}
use Rattle.sn_mount.proofs.ClearingLemmas.{cleared_within}
use Rattle.sn_mount.proofs.ClearedLemmas.{has_room, over_keeps, over_stays, runs_over}
use Rattle.sn_mount.proofs.RecoverLemmas.{found_is, no_root_refuses, no_root_writes, root_kept, root_leaves, root_over, written as written_there}

-- What a mount has read of a clean disk, on which all is synced, and what it has made of that up to a root.
pub record HasRooted (sectors : ℕ) (old mid rooted : Disk) (k : Kept) (at : LogPosition) (shown : Tree) (k2 : Kept) (result : Result PointBase MountFault) : Type 0 where
  pub room : RoomCounts
  pub recovers : Bool
  pub found : HasFound sectors (reads mid) k at shown room recovers
  pub device : IsOfDevice sectors (reads mid)
  pub clean : IsSomeClean sectors (reads mid)
  pub first : Touches Nowhere old mid
  pub same : reads mid ≡ reads old
  pub synced : IsSynced mid
  pub settles : SettlesChanges k shown k2
  pub tree : IsTree limits_written shown
  pub makes : MakesRoot result at.blocks k2 recovers mid rooted
  pub touched : Touches (IsApart at.blocks k.slot) mid rooted
  pub becomes : IfOk result (λ next. BecomesRoot recovers k2 (kept_in next no_changes))

-- The first place of the root's half of the log is cleared, and the log continues there, with the room that the root leaves.
pub record HasCleared (n : ℕ) (base : PointBase) (new : Disk) (at : LogPosition) (room : RoomCounts) : Type 0 where
  pub whole : AreSectors (reads new)
  pub synced : IsSynced new
  pub closed : Always new (λ c. IsClosed c (base_of n base.root.epoch + 0))
  pub at_first : at ≡ first_of n base.root.epoch
  pub room_fresh : room ≡ fresh (free_data base.map (start_of n Data))

-- a clean disk is an image of a world alone, by the limits of its root, and so by those that are written
clean_is_world : (sectors : ℕ) (c : Contents) (w : World) → IsOfDevice sectors c → IsSomeClean sectors c → IsImage c w → IsWorld limits_written w
clean_is_world sectors c w device (free, clean) im =
    let size : im.blocks ≡ clean.blocks =
    one_size sectors c im.blocks clean.blocks (record { size = im.disk.size; spelled = im.spelled; room = omega (arith, im.disk.long, device.count) }) clean.sound.formatted in
    let opened = opens_to_found sectors c clean.blocks clean.slot clean.root device clean.sound w (subst (λ (n : ℕ). Opens n c w) size im.opens) in
    let limits = clean.root.limits in
    world_stays limits limits_written (written_allows limits.version limits clean.sound.newest.body.fits.version) w opened.whole

module _ {sectors : ℕ} {old mid rooted : Disk} {k : Kept} {at : LogPosition} {shown : Tree} {k2 : Kept} {result : Result PointBase MountFault} (m : HasRooted sectors old mid rooted k at shown k2 result) where
  never_written : (new : Disk) → Touches (IsApart at.blocks k.slot) mid new → KeepsTheRoot sectors old new
  never_written new touched = root_kept sectors mid k at shown m.room m.recovers m.found m.device.count m.device.whole m.synced k2 m.settles m.tree old new m.first m.same touched

  to_root : (w : World) → IsImage (reads mid) w → LeavesOnly mid rooted (λ c. IsImage c w)
  to_root w is = root_leaves sectors mid k at shown m.room m.recovers m.found m.device.count m.device.whole m.synced k2 m.settles m.tree w is result rooted m.makes

  leaves_by : (d : Disk) (w : World) → LeavesOnly mid d (λ c. IsImage c w) → LeavesTheWorld old d w
  leaves_by d w leaves = record { mid = mid; first = m.first; same = m.same; synced = m.synced; moments = leaves }

  -- what the disk was an image of before
  pub image_synced : (w : World) → IsImage (reads old) w → IsImage (reads mid) w
  image_synced w = subst (λ (c : Contents). IsImage c w) (sym m.same)

  -- ---- where no root is made

  pub no_root_cause : (fault : MountFault) → IsNoRoot fault at.blocks k2 mid rooted → IsCause sectors (reads old) fault
  no_root_cause fault none =
      subst (λ (c : Contents). IsCause sectors c fault) m.same
      (refused_cause fault sectors (reads mid) m.device m.clean (no_root_refuses sectors mid k at shown m.room m.recovers m.found m.device.count m.device.whole m.synced k2 m.settles m.tree fault rooted none))

  pub no_root_touches : (fault : MountFault) → IsNoRoot fault at.blocks k2 mid rooted → WritesAtFault fault sectors old rooted
  no_root_touches fault none = no_root_writes fault sectors at.blocks k2 old mid rooted none m.first (never_written rooted m.touched)

  pub leaves_at_root : (w : World) → IsImage (reads mid) w → LeavesTheWorld old rooted w
  leaves_at_root w is = leaves_by rooted w (to_root w is)

  -- ---- where the first place is cleared, or was to be

  module _ {base : PointBase} (done : result ≡ Ok base) {new : Disk} {T E : Type 0} {cleared : Result T E} (clears : Clears (base_of at.blocks base.root.epoch) 0 cleared rooted new) where
    pub cleared_keeps : KeepsTheRoot sectors old new
    cleared_keeps =
        let half = base_of at.blocks base.root.epoch in
        never_written new
        (Touches-join (IsApart at.blocks k.slot) mid rooted new m.touched
        (Touches-within (Single (cleared_sector (reads rooted) half 0)) (IsApart at.blocks k.slot) rooted new
        (λ i is. half_apart at.blocks base.root.epoch k.slot i (subst (InHalf half) (sym is) (cleared_within (reads rooted) half 0 (omega arith)))) clears.written.touched))

    over : (w : World) → IsImage (reads mid) w → IsImageOver rooted w at.blocks (kept_in base no_changes)
    over w is =
        subst (λ (r : Result PointBase MountFault). IfOk r (λ next. IsImageOver rooted w at.blocks (kept_in next no_changes))) done
        (root_over sectors mid k at shown m.room m.recovers m.found m.device.count m.device.whole m.synced k2 m.settles m.tree w is result rooted m.makes)

    pub leaves_at_end : (w : World) → IsImage (reads mid) w → LeavesTheWorld old new w
    leaves_at_end w is = leaves_by new w (LeavesOnly-join mid rooted new (λ c. IsImage c w) (to_root w is) (over_keeps rooted new w at.blocks (kept_in base no_changes) (over w is) cleared clears))

    -- the root that counts then has the written limits
    root_written : base.root.limits ≡ limits_written
    root_written = told m.recovers refl (subst (λ (r : Result PointBase MountFault). IfOk r (λ next. BecomesRoot m.recovers k2 (kept_in next no_changes))) done m.becomes)
      where
        told : (b : Bool) → m.recovers ≡ b → BecomesRoot b k2 (kept_in base no_changes) → base.root.limits ≡ limits_written
        told true e becomes = becomes.1.limits
        told false e becomes =
            let its = clean_image sectors (reads mid) m.device m.clean in
            ap (λ (r : RootBody). r.limits) (becomes.1 ∙ m.settles.root) ∙ written_there sectors (reads mid) k at shown m.room m.recovers m.found m.device.whole m.device.count its.0 its.1 e

    module _ {p : LogPosition} {q : RoomCounts} (e : HasCleared at.blocks base new p q) where
      stays : (w : World) → IsImage (reads mid) w → IsImageOver new w at.blocks (kept_in base no_changes)
      stays w is = over_stays rooted new w at.blocks (kept_in base no_changes) (over w is) cleared clears e.whole e.synced

      found_its : (w : World) → IsImage (reads mid) w → found shown w.frozen ≡ w
      found_its w is = found_is sectors (reads mid) k at shown m.room m.recovers m.found m.device.whole m.device.count w is

      -- the live tree of the root that counts then is the settled one
      pub below_is : image (store_of (reads new)) base.root.inode_file ≡ settled shown
      below_is =
          let its = clean_image sectors (reads mid) m.device m.clean in
          (stays its.0 its.1).live ∙ ap (λ (x : World). x.live) (sym (found_its its.0 its.1))

      module _ (x : World) (shows : x ≡ record new_world { live = settled shown }) where
        -- with the frozen trees of that root
        abbrev shown_world : World
        shown_world = record x { frozen = (trees_at (store_of (reads new)) base.root).frozen }

        world_is : (w : World) → IsImage (reads mid) w → shown_world ≡ w
        world_is w is =
            let its = stays w is in
            let frozen : frozen_of (store_of (reads new)) base.root.snapshots ≡ w.frozen =
            ap (λ (r : RootBody). frozen_of (store_of (reads new)) r.snapshots) (sym its.root) ∙ sym (ap (λ (y : World). y.frozen) its.image.opens.stands.settles) in
            (λ i. record (shows i) { frozen = frozen i }) ∙ found_its w is

        runs_now : (w : World) → IsImage (reads mid) w → (keeps_back since : ℕ → Bool) (status : Status)
            → RunsReady (record { world = w; kept = keeps_back; kept_since = since; room = q; at = p; base = kept_in base no_changes; point = None; disk = new; status = status }) w (kept_in base no_changes)
        runs_now w is keeps_back since status =
            runs_over new w at.blocks (kept_in base no_changes) (stays w is) (clean_is_world sectors (reads mid) w m.device m.clean is).live refl root_written e.closed keeps_back since status q p e.room_fresh e.at_first

        pub is_world : IsWorld limits_written shown_world
        is_world =
            let its = clean_image sectors (reads mid) m.device m.clean in
            subst (IsWorld limits_written) (sym (world_is its.0 its.1)) (clean_is_world sectors (reads mid) its.0 m.device m.clean its.1)

        module _ (layer : Layer) (none : layer ≡ no_changes) where
          pub runs_shown : (keeps_back since : ℕ → Bool) (status : Status)
              → RunsReady (record { world = shown_world; kept = keeps_back; kept_since = since; room = q; at = p; base = kept_in base layer; point = None; disk = new; status = status }) shown_world (kept_in base layer)
          runs_shown keeps_back since status =
              let its = clean_image sectors (reads mid) m.device m.clean in
              subst
              (λ (l : Layer). RunsReady (record { world = shown_world; kept = keeps_back; kept_since = since; room = q; at = p; base = kept_in base l; point = None; disk = new; status = status }) shown_world (kept_in base l)) (sym none)
              (subst
              (λ (y : World). RunsReady (record { world = y; kept = keeps_back; kept_since = since; room = q; at = p; base = kept_in base no_changes; point = None; disk = new; status = status }) y (kept_in base no_changes))
              (sym (world_is its.0 its.1)) (runs_now its.0 its.1 keeps_back since status))

          pub recovered : (w : World) → IsImage (reads mid) w → IsRecovered p shown_world q (kept_in base layer) old new w
          recovered w is = subst (λ (l : Layer). IsRecovered p shown_world q (kept_in base l) old new w) (sym none) (record {
            is = world_is w is;
            room_is = has_room new w at.blocks (kept_in base no_changes) (stays w is) q e.room_fresh;
            runs = runs_now w is;
            leaves = leaves_at_end w is;
          })
