-- What a mount makes of what it has found: it is the disk's world, and where a root can't be made of it, the map is no sound root's.
use Rattle.std.proofs.Common.{◌≡◌, ◌≢◌, inl, inr, ℕ, zero, suc, ◌+◌, ◌*◌, ◌≤◌, ◌==◌, Bool, true, false, List, [], ◌∷◌, ◌++◌, length, map as map_list, slice_index, Some, None, Result, Err, refl, sym, ap, subst, ◌∙◌, arith, eq-eqb, eqb-true, leb-true, true≢false}
use Rattle.std.specs.Prelude.{IfOk}
use Rattle.std.specs.FinMap as map
use Rattle.std.specs.Cmp.{nat_cmp_total}
use Rattle.std.proofs.Common.{not, ◌||◌, cond}
use Rattle.std.proofs.lemmas.Map.Lookups.{exact_unsigned}
use Rattle.sn_changed.specs.Changed.{HasChanged}
use Rattle.sn_device.specs.Sectors.{AreSectors, Contents}
use Rattle.sn_device.specs.Disk.{Disk, IsSynced, reads}
use Rattle.sn_device.specs.Crash.{LeavesOnly, Touches}
use Rattle.sn_device.proofs.CrashLemmas.{Always-synced, LeavesOnly-start, Touches-join, Touches-within}
use Rattle.sn_block.specs.Effects.{Nowhere}
use Rattle.sn_block.specs.declared.fault.ReadFault.{ReadFault}
use Rattle.sn_block.specs.declared.fault.ReadFault.TheVariants as read
use Rattle.sn_layout.specs.declared.geometry.Area.TheVariants.{MapCopy}
use Rattle.sn_layout.specs.declared.geometry.Slot.{Slot}
use Rattle.sn_layout.specs.declared.root.RootBody.{RootBody}
use Rattle.sn_layout.specs.Geometry.{start_of}
use Rattle.sn_limits.specs.declared.limits.Limits.{Limits}
use Rattle.sn_limits.specs.Versions.{limits_of, limits_written}
use Rattle.sn_limits.proofs.VersionLemmas.{each_version, written_known}
use Rattle.sn_model.specs.declared.change.Change.{Change}
use Rattle.sn_model.specs.declared.fault.Damage.{Damage}
use Rattle.sn_model.specs.declared.fault.Damage.TheVariants.{MapWord}
use Rattle.sn_model.specs.declared.fault.MountFault.{MountFault}
use Rattle.sn_model.specs.declared.fault.MountFault.TheVariants as fault
use Rattle.sn_model.specs.Changes.{apply_all}
use Rattle.sn_model.specs.NameTree.{IsTree}
use Rattle.sn_model.specs.Settling.{is_nameless, nameless_in, settled}
use Rattle.sn_model.specs.Tree.{Tree}
use Rattle.sn_model.specs.World.{World, new_world}
use Rattle.sn_model.proofs.DropLemmas.{dropping_tree}
use Rattle.sn_model.proofs.ListLemmas.{lists_keep}
use Rattle.sn_model.proofs.SettlingLemmas.{get_without}
use Rattle.sn_ondisk.specs.MapCopy.{HasMap}
use Rattle.sn_ondisk.specs.Roots.{IsNewest}
use Rattle.sn_ondisk.specs.Shown.{Shown}
use Rattle.sn_ondisk.specs.Trees.{Store, store_of}
use Rattle.sn_log.specs.Positions.{LogPosition, payloads_of}
use Rattle.sn_image.specs.Image.{image}
use Rattle.sn_image.proofs.ByteLemmas.{data_whole}
use Rattle.sn_image.proofs.SoundNameLemmas.{sound_tree}
use Rattle.sn_opening.specs.Opens.{IsDisk, Opens, Shows}
use Rattle.sn_opening.specs.Worlds.{found, frozen_of}
use Rattle.sn_overlay.specs.Needs.{AreCharged}
use Rattle.sn_overlay.specs.Overlays.{no_changes}
use Rattle.sn_overlay_change.proofs.NamelessLemmas.{drops_are_counted}
use Rattle.sn_held.specs.Rooms.{RoomCounts}
use Rattle.sn_sound.specs.Charges.{Fits, charges_from}
use Rattle.sn_sound.specs.Disks.{IsFormatted}
use Rattle.sn_sound.specs.Logs.{HasAgeLeft, IsToRecover}
use Rattle.sn_sound.specs.Maps.{IsSoundRoot, Rooted, free_blocks, frozen_root}
use Rattle.sn_sound.proofs.StandingLemmas.{first_among}
use Rattle.sn_held.specs.Held.{Kept}
use Rattle.sn_held.specs.Images.{IsImage}
use Rattle.sn_held.proofs.EventLemmas.{images_one}
use Rattle.sn_cp_held.specs.Builds.{CanBeBuilt}
use Rattle.sn_cp_held.specs.Recovering.{HasReplayed}
use Rattle.sn_cp_held.specs.Wholes.{StandsKept}
use Rattle.sn_cp_held.proofs.LiveLemmas.{kept_can_be_built}
use Rattle.sn_cp_whole.specs.Planning.{kept_in}
use Rattle.sn_cp_whole.specs.Recovering.{IsApart, IsImageOver, MakesRecovery}
use Rattle.sn_cp_whole.specs.declared.base.PointBase.{PointBase}
use Rattle.sn_cp_whole.specs.declared.fault.PointFault.{PointFault}
use Rattle.sn_cp_whole.specs.declared.fault.PointFault.TheVariants as point
use Rattle.sn_examine.specs.Ages.{TellsRecovery}
use Rattle.sn_examine.specs.Finding.{HasFound}
use Rattle.sn_examine.specs.Refusing.{Refuses}
use Rattle.sn_examine.proofs.FindLemmas.{IsSameRoot, are_replayed, both_applied, charges_are, same_root}
use Rattle.sn_examine.specs.Failing.{read_fault}
use Rattle.sn_mount.specs.Recovering.{KeepsTheRoot, WritesAtFault}
use Rattle.sn_mount.specs.Settling.{IsNoRoot, MakesRoot, SettlesChanges}

-- ---- nothing to recover

both_nil : {A : Type 0} (xs ys : List A) → (xs ++ ys ≢ [] → ⊥) → (xs ≡ []) × (ys ≡ [])
both_nil [] [] never = (refl, refl)
both_nil [] (y ∷ ys) never = absurd (never (λ nil. cc))
both_nil (x ∷ xs) ys never = absurd (never (λ nil. cc))

same_number : (a b : ℕ) → (a ≢ b → ⊥) → a ≡ b
same_number a b never = told (a == b) refl
  where
    told : (t : Bool) → (a == b) ≡ t → a ≡ b
    told true is = eqb-true a b is
    told false is = absurd (never (λ same. true≢false (sym (eq-eqb a b same) ∙ is)))

within_all : (m free all : ℕ) → m ≤ free → free ≡ all → m ≤ all
within_all m free all few is = omega (arith, few, is)

-- the charges of each version pay for what its changes need
versions_charged : (version : ℕ) (limits : Limits) → limits_of version ≡ Some limits → AreCharged limits
versions_charged = each_version AreCharged (record { inodes = omega arith; blocks = refl }) (record { inodes = omega arith; blocks = refl })

is_zero : (m : ℕ) → (m ≢ 0 → ⊥) → m ≡ 0
is_zero zero never = refl
is_zero (suc m) never = absurd (never (λ e. omega (arith, e)))

-- a tree in which each file has a name stays as it is
settled_same : (tree : Tree) → nameless_in tree ≡ 0 → settled tree ≡ tree
settled_same tree none = λ i. record { nodes = nodes i; links = tree.links }
  where
    named : (n : ℕ) (b : Bool) → is_nameless tree n (map.get tree.nodes n) ≡ b → cond (not b || false) (map.get tree.nodes n) None ≡ map.get tree.nodes n
    named n true is = absurd (omega (arith, drops_are_counted tree n is, none))
    named n false is = refl

    nodes : (settled tree).nodes ≡ tree.nodes
    nodes = map.same_map nat_cmp_total exact_unsigned _ _ (λ n. get_without (λ _. false) tree n ∙ named n (is_nameless tree n (map.get tree.nodes n)) refl)

made_of_none : (limits : Limits) (changes : List Change) (from tree : Tree) → changes ≡ [] → apply_all limits changes from ≡ Some tree → tree ≡ from
unfolding apply_all
made_of_none limits [] from tree none made = cc
made_of_none limits (change ∷ changes) from tree none made = absurd cc

-- ---- what is found

module _ (sectors : ℕ) (c : Contents) (k : Kept) (at : LogPosition) (shown : Tree) (room : RoomCounts) (recovers : Bool) (f : HasFound sectors c k at shown room recovers) where
  abbrev pub n : ℕ
  n = at.blocks

  abbrev pub s : Store
  s = store_of c

  abbrev pub img : Tree
  img = image s k.root.inode_file

  abbrev pub older : List Change
  older = f.both.has_older.all.replayed.changes

  abbrev pub newer : List Change
  newer = f.both.has_newer.all.replayed.changes

  -- nobody is logged in over the tree without files that have no name, beside the frozen trees of a root
  abbrev settled_over : RootBody → World
  settled_over b = record new_world { live = settled shown; frozen = frozen_of s b.snapshots }

  -- its version is one that is read
  abbrev limits : Limits
  limits = k.root.limits

  pub version : limits_of limits.version ≡ Some limits
  version = f.roots.newest.body.fits.version

  pub made : apply_all limits (older ++ newer) img ≡ Some shown
  made = both_applied limits c img n k.root.epoch at shown f.charges f.both

  charged_one : f.charges ≡ charges_from limits (older ++ newer) img
  charged_one = charges_are limits c img n k.root.epoch at shown f.charges f.both

  pub shown_here : Shown n c k.slot k.root (payloads_of older) (payloads_of newer)
  shown_here = record {
    newest = f.roots.newest;
    has_older = (are_replayed limits c img n k.root.epoch f.both.older f.both.middle f.both.first f.both.has_older).records;
    has_newer = (are_replayed limits c f.both.middle n (k.root.epoch + 1) f.both.newer shown f.both.second f.both.has_newer).records;
  }

  -- where the map is that of a sound root
  module _ (whole : AreSectors c) (count : length c ≡ sectors) (spelled : HasMap n c k.slot k.words) (sound : IsSoundRoot n s k.root (slice_index k.words)) where
    pub disk_is : IsDisk n c
    disk_is = record { size = f.roots.formatted.size; whole = whole; long = subst (λ (m : ℕ). 8 * n ≤ m) (sym count) f.roots.formatted.room }

    covers : f.charges + limits.inode_charge * nameless_in img ≤ free_blocks n s k.root
    covers = within_all (f.charges + limits.inode_charge * nameless_in img) f.finds.free (free_blocks n s k.root) (leb-true (f.charges + limits.inode_charge * nameless_in img) f.finds.free f.finds.covered) (f.finds.told k.words spelled sound)

    pub fits_one : Fits limits (older ++ newer) img (free_blocks n s k.root)
    fits_one = subst (λ (m : ℕ). m + limits.inode_charge * nameless_in img ≤ free_blocks n s k.root) charged_one covers

    -- under the root's limits its own tree is a name tree, and so is what the records made of it
    shown_tree : IsTree limits shown
    shown_tree =
        let root : Rooted = record { bit = 0; inodes = k.root.inode_file } in
        let its = sound.roots root (first_among root (map_list frozen_root k.root.snapshots)) in
        lists_keep limits (older ++ newer) img shown (sound_tree limits n s k.root.inode_file version (λ block lies. data_whole c n block whole disk_is.long lies) its) made

    module _ (k2 : Kept) (w : World) (settles : SettlesChanges k shown k2) (live : w.live ≡ settled shown) (frozen : w.frozen ≡ frozen_of s k2.root.snapshots) where
      tree_left : IsTree limits w.live
      tree_left = subst (IsTree limits) (sym live) (dropping_tree limits shown (λ _. false) shown_tree)

      changed_left : HasChanged limits k2.changed img w.live f.charges
      changed_left = subst (λ (t : Tree). HasChanged limits k2.changed img t f.charges) (sym live) (settles.changed limits img f.charges (versions_charged limits.version limits version) f.changed)

      stands : StandsKept n c w k2
      stands = record {
        store = s;
        older = older;
        newer = newer;
        disk = disk_is;
        shown = subst (λ (slot : Slot). Shows n s slot k2.root older newer c) (sym settles.slot) (subst (λ (b : RootBody). Shows n s k.slot b older newer c) (sym settles.root) (record { shown = shown_here; same = λ block among. refl }));
        map = subst (λ (slot : Slot). HasMap n c slot k2.words) (sym settles.slot) (subst (λ (ws : List ℕ). HasMap n c k.slot ws) (sym settles.words) spelled);
        sound = subst (λ (b : RootBody). IsSoundRoot n s b (slice_index k2.words)) (sym settles.root) (subst (λ (ws : List ℕ). IsSoundRoot n s k.root (slice_index ws)) (sym settles.words) sound);
        frozen = frozen;
        charged = f.charges;
        changed = subst (λ (b : RootBody). HasChanged b.limits k2.changed (image s b.inode_file) w.live f.charges) (sym settles.root) changed_left;
        fits = subst (λ (b : RootBody). f.charges + b.limits.inode_charge * nameless_in (image s b.inode_file) ≤ free_blocks n s b) (sym settles.root) covers;
        tree = subst (λ (b : RootBody). IsTree b.limits w.live) (sym settles.root) tree_left;
      }

  -- where no root can be made of it, it isn't
  module _ (whole : AreSectors c) (count : length c ≡ sectors) (k2 : Kept) (settles : SettlesChanges k shown k2) (never : CanBeBuilt n s k2 → ⊥) where
    unsound : (words : List ℕ) → HasMap n c k.slot words → IsSoundRoot n s k.root (slice_index words) → ⊥
    unsound words spelled sound =
        let same = f.words words spelled in
        never (kept_can_be_built n c (settled_over k2.root) k2 (stands whole count (subst (λ (ws : List ℕ). HasMap n c k.slot ws) (sym same) spelled) (subst (λ (ws : List ℕ). IsSoundRoot n s k.root (slice_index ws)) (sym same) sound) k2 (settled_over k2.root) settles refl refl))

    pub map_refuses : (damage : Damage) (block : ℕ) → damage ≡ MapWord → block ≡ start_of n (MapCopy k2.slot) → Refuses (fault.Damaged damage block) sectors c
    map_refuses damage block is at_map =
        subst (λ (d : Damage). Refuses (fault.Damaged d block) sectors c) (sym is) (
          (n, f.roots.formatted),
          (
            λ w im.
                let same = same_root sectors c n k.slot k.root w im count f.roots.formatted f.roots.newest in
                unsound im.words
                (subst (λ (r : Slot). HasMap n c r im.words) same.slots (subst (λ (m : ℕ). HasMap m c im.opens.slot im.words) same.blocks im.map))
                (subst (λ (r : RootBody). IsSoundRoot n s r (slice_index im.words)) same.roots (subst (λ (m : ℕ). IsSoundRoot m s im.opens.root (slice_index im.words)) same.blocks im.sound)),
            record { blocks = n; formatted = f.roots.formatted; slot = k.slot; root = k.root; newest = f.roots.newest; unsound = unsound; is = at_map ∙ ap (λ (slot : Slot). start_of n (MapCopy slot)) settles.slot },
          ),
        )

  -- ---- on an image

  module _ (whole : AreSectors c) (count : length c ≡ sectors) (w : World) (im : IsImage c w) where
    same : IsSameRoot c n k.slot k.root w im
    same = same_root sectors c n k.slot k.root w im count f.roots.formatted f.roots.newest

    spelled_its : HasMap n c k.slot im.words
    spelled_its = subst (λ (r : Slot). HasMap n c r im.words) same.slots (subst (λ (m : ℕ). HasMap m c im.opens.slot im.words) same.blocks im.map)

    words_same : k.words ≡ im.words
    words_same = f.words im.words spelled_its

    pub spelled_here : HasMap n c k.slot k.words
    spelled_here = subst (λ (ws : List ℕ). HasMap n c k.slot ws) (sym words_same) spelled_its

    pub sound_here : IsSoundRoot n s k.root (slice_index k.words)
    sound_here =
        subst (λ (ws : List ℕ). IsSoundRoot n s k.root (slice_index ws)) (sym words_same)
        (subst (λ (r : RootBody). IsSoundRoot n s r (slice_index im.words)) same.roots (subst (λ (m : ℕ). IsSoundRoot m s im.opens.root (slice_index im.words)) same.blocks im.sound))

    -- the world that the root and these records stand for
    abbrev pub standing : World
    standing = found shown (frozen_of s k.root.snapshots)

    abbrev pub opens_it : Opens n c standing
    opens_it = record {
      slot = k.slot;
      root = k.root;
      older = older;
      newer = newer;
      older_spelled = f.both.has_older.all.replayed.spelled;
      newer_spelled = f.both.has_newer.all.replayed.spelled;
      shown = shown_here;
      stands = record { tree = shown; applied = made; settles = refl };
    }

    pub age_left : (b : Bool) → recovers ≡ b → IsToRecover k.root (older ++ newer) img → HasAgeLeft k.root
    age_left true e some = f.age e
    age_left false e some = absurd (subst (λ (b : Bool). TellsRecovery b k.root (older ++ newer) img) e f.recovery some)

    abbrev pub image_found : IsImage c standing
    image_found = record {
      blocks = n;
      disk = disk_is whole count spelled_here sound_here;
      spelled = f.roots.formatted.spelled;
      opens = opens_it;
      words = k.words;
      map = spelled_here;
      sound = sound_here;
      none_later = f.roots.none_later;
      fits = fits_one whole count spelled_here sound_here;
      age = age_left recovers refl;
    }

    pub standing_is : standing ≡ w
    standing_is = images_one c standing w image_found im

    -- and it is what was found with the world's own frozen trees
    pub found_is : found shown w.frozen ≡ w
    found_is = ap (λ (x : World). found shown x.frozen) (sym standing_is) ∙ standing_is

    -- where nothing is to recover
    module _ (none : recovers ≡ false) where
      left : IsToRecover k.root (older ++ newer) img → ⊥
      left = subst (λ (b : Bool). TellsRecovery b k.root (older ++ newer) img) none f.recovery

      pub no_records : (older ≡ []) × (newer ≡ [])
      no_records = both_nil older newer (λ some. left (inr (inl some)))

      -- the root is of the written version
      pub written : limits ≡ limits_written
      written = written_known limits version (same_number limits.version limits_written.version (λ other. left (inl other)))

      pub tree_stays : img ≡ settled shown
      tree_stays =
          let live : shown ≡ img = made_of_none limits (older ++ newer) img shown (λ i. no_records.0 i ++ no_records.1 i) made in
          sym (settled_same img (is_zero (nameless_in img) (λ some. left (inr (inr some))))) ∙ ap settled (sym live)

-- ---- the root that is made

module _ (sectors : ℕ) (mid : Disk) (k : Kept) (at : LogPosition) (shown : Tree) (room : RoomCounts) (recovers : Bool) (f : HasFound sectors (reads mid) k at shown room recovers) (count : length (reads mid) ≡ sectors) (whole : AreSectors (reads mid))
    (synced : IsSynced mid) (k2 : Kept) (settles : SettlesChanges k shown k2) (tree : IsTree limits_written shown) where
  module _ (w : World) (im : IsImage (reads mid) w) where
    abbrev here : World
    here = standing sectors (reads mid) k at shown room recovers f whole count w im

    abbrev its : IsImage (reads mid) here
    its = image_found sectors (reads mid) k at shown room recovers f whole count w im

    replayed : HasReplayed mid here its k2
    replayed = record {
      synced = synced;
      slot = settles.slot;
      root = settles.root;
      words = settles.words;
      changed = subst (λ (l : Limits). HasChanged l k2.changed (image (store_of (reads mid)) k.root.inode_file) here.live (charges_from l (its.opens.older ++ its.opens.newer) (image (store_of (reads mid)) k.root.inode_file))) (sym (ap (λ (r : RootBody). r.limits) settles.root))
          (subst (λ (charges : ℕ). HasChanged k.root.limits k2.changed (image (store_of (reads mid)) k.root.inode_file) here.live charges) (charged_one sectors (reads mid) k at shown room recovers f)
          (settles.changed k.root.limits (image (store_of (reads mid)) k.root.inode_file) f.charges (versions_charged k.root.limits.version k.root.limits f.roots.newest.body.fits.version) f.changed));
      tree = dropping_tree limits_written shown (λ _. false) tree;
    }

    stays : recovers ≡ false → IsImageOver mid here at.blocks (record k2 { changed = no_changes })
    stays none = record {
      live = ap (λ (b : RootBody). image (store_of (reads mid)) b.inode_file) settles.root ∙ tree_stays sectors (reads mid) k at shown room recovers f whole count w im none;
      image = its;
      blocks = refl;
      slot = sym settles.slot;
      root = sym settles.root;
      words = sym settles.words;
      older = (no_records sectors (reads mid) k at shown room recovers f whole count w im none).0;
      newer = (no_records sectors (reads mid) k at shown room recovers f whole count w im none).1;
      synced = synced;
    }

    is_it : here ≡ w
    is_it = standing_is sectors (reads mid) k at shown room recovers f whole count w im

    module _ (result : Result PointBase MountFault) (d : Disk) (makes : MakesRoot result at.blocks k2 recovers mid d) where
      pub root_leaves : LeavesOnly mid d (λ c. IsImage c w)
      root_leaves = subst (λ (x : World). LeavesOnly mid d (λ c. IsImage c x)) is_it (makes here its refl replayed stays).0

      pub root_over : IfOk result (λ next. IsImageOver d w at.blocks (kept_in next no_changes))
      root_over = subst (λ (x : World). IfOk result (λ next. IsImageOver d x at.blocks (kept_in next no_changes))) is_it (makes here its refl replayed stays).1

  -- what was never written
  pub root_kept : (old new : Disk) → Touches Nowhere old mid → reads mid ≡ reads old → Touches (IsApart at.blocks k.slot) mid new → KeepsTheRoot sectors old new
  root_kept old new first same touched = record {
    blocks = at.blocks;
    formatted = subst (λ (c : Contents). IsFormatted sectors c at.blocks) same f.roots.formatted;
    slot = k.slot;
    root = k.root;
    newest = subst (λ (c : Contents). IsNewest c k.slot k.root) same f.roots.newest;
    touched = Touches-join (IsApart at.blocks k.slot) old mid new (Touches-within Nowhere (IsApart at.blocks k.slot) old mid (λ i none. absurd none) first) touched;
  }

  -- where no root can be made
  pub no_root_refuses : (fault : MountFault) (d : Disk) → IsNoRoot fault at.blocks k2 mid d → Refuses fault sectors (reads mid)
  no_root_refuses (fault.Damaged damage block) d is = map_refuses sectors (reads mid) k at shown room recovers f whole count k2 settles is.3 damage block is.0 is.1
  no_root_refuses fault.NotFormatted d is = absurd is
  no_root_refuses fault.Version d is = absurd is
  no_root_refuses fault.NoRoot d is = absurd is
  no_root_refuses fault.Memory d is = tt
  no_root_refuses fault.Device d is = tt

pub no_root_writes : (fault : MountFault) (sectors n : ℕ) (k : Kept) (old mid d : Disk) → IsNoRoot fault n k mid d → Touches Nowhere old mid → KeepsTheRoot sectors old d → WritesAtFault fault sectors old d
no_root_writes (fault.Damaged damage block) sectors n k old mid d is first kept = subst (λ (e : Disk). Touches Nowhere old e) (sym is.2) first
no_root_writes fault.NotFormatted sectors n k old mid d is first kept = absurd is
no_root_writes fault.Version sectors n k old mid d is first kept = absurd is
no_root_writes fault.NoRoot sectors n k old mid d is first kept = absurd is
no_root_writes fault.Memory sectors n k old mid d is first kept = inr kept
no_root_writes fault.Device sectors n k old mid d is first kept = inr kept

-- whatever became of a recovery that isn't made, the image is left
pub unmade_leaves : (f : PointFault) (n : ℕ) (world : World) (old new : Disk) → IsSynced old → IsImage (reads old) world → MakesRecovery (Err f) n world old new → LeavesOnly old new (λ c. IsImage c world)
unmade_leaves f n world old new synced im makes = told f makes
  where
    stays : new ≡ old → LeavesOnly old new (λ c. IsImage c world)
    stays same = subst (λ (d : Disk). LeavesOnly old d (λ c. IsImage c world)) (sym same) (LeavesOnly-start old (λ c. IsImage c world) (Always-synced old (λ c. IsImage c world) synced im))

    told : (f : PointFault) → MakesRecovery (Err f) n world old new → LeavesOnly old new (λ c. IsImage c world)
    told point.Memory same = stays same
    told point.Age same = stays same
    told point.Read same = stays same
    told point.Damaged never = absurd never
    told point.Device leaves = leaves

-- ---- a clearing that fails

pub read_writes : (f : ReadFault) (sectors : ℕ) (old new : Disk) → KeepsTheRoot sectors old new → WritesAtFault (read_fault f) sectors old new
read_writes read.Device sectors old new kept = inr kept
read_writes read.Memory sectors old new kept = inr kept
