-- What holds once the first place of the log is cleared, over a root on which nothing is logged.
use Rattle.std.proofs.Common.{◌≡◌, inl, ℕ, ◌+◌, Bool, List, [], ◌∷◌, ◌++◌, None, length, slice_index, Result, refl, sym, ap, subst, ◌∙◌, arith}
use Rattle.sn_alloc.specs.Taking.{free_data}
use Rattle.sn_changed.specs.Changed.{HasChanged}
use Rattle.sn_changed.proofs.ChangedLemmas.{nothing_changed}
use Rattle.sn_device.specs.Sectors.{AreSectors, Contents, Single}
use Rattle.sn_device.specs.Disk.{Always, Disk, IsSynced, reads}
use Rattle.sn_device.specs.Crash.{LeavesOnly, Touches}
use Rattle.sn_device.specs.declared.status.Status.{Status}
use Rattle.sn_device.proofs.CrashLemmas.{Always-reads, Always-synced, LeavesOnly-now, Touches-within}
use Rattle.sn_layout.specs.declared.geometry.Area.TheVariants.{Data}
use Rattle.sn_layout.specs.declared.geometry.Slot.{Slot}
use Rattle.sn_layout.specs.declared.root.RootBody.{RootBody}
use Rattle.sn_layout.specs.Geometry.{start_of}
use Rattle.sn_layout.specs.Superblock.{superblock_bytes}
use Rattle.sn_limits.specs.declared.limits.Limits.{Limits}
use Rattle.sn_limits.specs.Versions.{limits_written}
use Rattle.sn_log.specs.Clearing.{Clears}
use Rattle.sn_log.specs.Positions.{IsReadyAt, LogPosition, first_of, payloads_of}
use Rattle.sn_map.specs.Free.{is_free_word}
use Rattle.sn_model.specs.declared.change.Change.{Change}
use Rattle.sn_model.specs.NameTree.{IsTree}
use Rattle.sn_model.specs.Tree.{Tree}
use Rattle.sn_model.specs.World.{World}
use Rattle.sn_ondisk.specs.Blocks.{block_at}
use Rattle.sn_ondisk.specs.Gates.{IsClosed}
use Rattle.sn_ondisk.specs.LogHalf.{HasNoLater, InHalf, Leads, Replays, ReplaysTo, base_of, cleared_sector}
use Rattle.sn_ondisk.specs.MapCopy.{HasMap}
use Rattle.sn_ondisk.specs.OneAnswer.{AreOne}
use Rattle.sn_ondisk.specs.Shown.{Shown}
use Rattle.sn_ondisk.specs.Trees.{Store, store_of}
use Rattle.sn_ondisk.proofs.MapLemmas.{map_is_one}
use Rattle.sn_ondisk.proofs.OneRootLemmas.{shown_is_one}
use Rattle.sn_ondisk.proofs.PlaceLemmas.{halves_apart}
use Rattle.sn_image.specs.Image.{image}
use Rattle.sn_opening.specs.Covering.{MakesCover}
use Rattle.sn_opening.specs.Opens.{Opens, Shows}
use Rattle.sn_opening.proofs.CoveringLemmas.{replay_covers}
use Rattle.sn_opening.proofs.OpeningLemmas.{half_lies}
use Rattle.sn_overlay.specs.Layers.{Layer}
use Rattle.sn_model.specs.Settling.{nameless_in}
use Rattle.sn_overlay.specs.Overlays.{no_changes}
use Rattle.sn_held.specs.Rooms.{RoomCounts, fresh, mounted}
use Rattle.sn_sound.specs.Charges.{Fits, charges_from}
use Rattle.sn_sound.specs.Maps.{free_blocks}
use Rattle.sn_sound.proofs.DiskLemmas.{one_size}
use Rattle.sn_sound.proofs.FreeLemmas.{free_counted, words_counted}
use Rattle.sn_sound.proofs.StandingLemmas.{lies_in_data}
use Rattle.sn_held.specs.Held.{Held, IsReady, Kept, Runs, RunsReady}
use Rattle.sn_held.specs.Images.{EndsAt, IsImage}
use Rattle.sn_held.specs.Room.{HasRoomOf, room_of_image}
use Rattle.sn_held.proofs.HeldLemmas.{Rests, rests_stay}
use Rattle.sn_mount.proofs.ClearingLemmas.{cleared_within, clearing_keeps}
use Rattle.sn_held.proofs.RoomLemmas.{image_same, settled_has_none}
use Rattle.sn_cp_whole.specs.Recovering.{IsImageOver}

none_spelled : (changes : List Change) → payloads_of changes ≡ [] → changes ≡ []
none_spelled [] none = refl
none_spelled (change ∷ changes) none = absurd cc

-- no record is at the first place
nothing_at : (c : Contents) (base epoch : ℕ) (changes : List Change) → changes ≡ [] → Replays c base epoch (payloads_of changes) → ReplaysTo c base epoch [] 0
nothing_at c base epoch changes none replays =
    let here : Replays c base epoch (payloads_of []) = subst (λ (xs : List Change). Replays c base epoch (payloads_of xs)) none replays in
    let first : here.0 ≡ 0 = here.1.leads in
    subst (λ (end : ℕ). ReplaysTo c base epoch [] end) first here.1

-- ---- the place is cleared

module _ (d new : Disk) (w : World) (n : ℕ) (k : Kept) (over : IsImageOver d w n k) {T E : Type 0} (result : Result T E) (clears : Clears (base_of n k.root.epoch) 0 result d new) where
  abbrev im : IsImage (reads d) w
  im = over.image

  abbrev o : Opens im.blocks (reads d) w
  o = im.opens

  abbrev s : Store
  s = store_of (reads d)

  base_is : base_of im.blocks o.root.epoch ≡ base_of n k.root.epoch
  base_is = λ i. base_of (over.blocks i) (over.root i).epoch

  clears_its : Clears (base_of im.blocks o.root.epoch) 0 result d new
  clears_its = subst (λ (b : ℕ). Clears b 0 result d new) (sym base_is) clears

  first_its : ReplaysTo (reads d) (base_of im.blocks o.root.epoch) o.root.epoch [] 0
  first_its = nothing_at (reads d) (base_of im.blocks o.root.epoch) o.root.epoch o.older over.older o.shown.has_older

  abbrev at : LogPosition
  at = first_of im.blocks o.root.epoch

  ends : EndsAt (reads d) w im at
  ends = (refl, inl (over.newer, refl, ap length (sym over.older), subst (λ (xs : List Change). ReplaysTo (reads d) (base_of im.blocks o.root.epoch) o.root.epoch (payloads_of xs) 0) (sym over.older) first_its))

  -- a crash at any moment leaves an image of the world
  pub over_keeps : LeavesOnly d new (λ c. IsImage c w)
  over_keeps = clearing_keeps d new w im at (omega arith) over.synced result clears_its ends

  in_half : Touches (InHalf (base_of im.blocks o.root.epoch)) d new
  in_half =
      Touches-within (Single (cleared_sector (reads d) (base_of im.blocks o.root.epoch) 0)) (InHalf (base_of im.blocks o.root.epoch)) d new
      (λ i is. subst (InHalf (base_of im.blocks o.root.epoch)) (sym is) (cleared_within (reads d) (base_of im.blocks o.root.epoch) 0 (omega arith))) clears_its.written.touched

  rests : LeavesOnly d new (Rests im.blocks s o.slot o.root im.words (o.root.epoch + 1) [])
  rests =
      rests_stay im.blocks s o.slot o.root im.words (o.root.epoch + 1) [] o.root.epoch (lies_in_data im.blocks s o.root (slice_index im.words) im.sound) (halves_apart im.blocks o.root.epoch) d new im.disk.whole
      (Always-synced d (Rests im.blocks s o.slot o.root im.words (o.root.epoch + 1) []) over.synced (record {
        disk = im.disk;
        spelled = im.spelled;
        newest = o.shown.newest;
        same = λ block among. refl;
        map = im.map;
        found = (0, nothing_at (reads d) (base_of im.blocks (o.root.epoch + 1)) (o.root.epoch + 1) o.newer over.newer o.shown.has_newer);
        none = im.none_later (o.root.epoch + 1);
      }))
      in_half

  module _ (whole : AreSectors (reads new)) (synced : IsSynced new) where
    rest : Rests im.blocks s o.slot o.root im.words (o.root.epoch + 1) [] (reads new)
    rest = Always-reads new (Rests im.blocks s o.slot o.root im.words (o.root.epoch + 1) []) whole (LeavesOnly-now d new (Rests im.blocks s o.slot o.root im.words (o.root.epoch + 1) []) rests)

    first_left : ReplaysTo (reads new) (base_of im.blocks o.root.epoch) o.root.epoch [] 0
    first_left =
        Always-reads new (λ c. ReplaysTo c (base_of im.blocks o.root.epoch) o.root.epoch [] 0) whole
        (LeavesOnly-now d new (λ c. ReplaysTo c (base_of im.blocks o.root.epoch) o.root.epoch [] 0) (clears_its.keeps o.root.epoch [] over.synced first_its))

    left : IsImage (reads new) w
    left = Always-reads new (λ c. IsImage c w) whole (LeavesOnly-now d new (λ c. IsImage c w) over_keeps)

    size : im.blocks ≡ left.blocks
    size = one_size (length (reads new)) (reads new) im.blocks left.blocks (record { size = rest.disk.size; spelled = rest.spelled; room = rest.disk.long }) (record { size = left.disk.size; spelled = left.spelled; room = left.disk.long })

    one : AreOne o.slot left.opens.slot o.root left.opens.root [] [] (payloads_of left.opens.older) (payloads_of left.opens.newer)
    one =
        shown_is_one im.blocks (reads new) o.slot left.opens.slot o.root left.opens.root [] [] (payloads_of left.opens.older) (payloads_of left.opens.newer)
        (half_lies im.blocks o.root.epoch (reads new) rest.disk) (half_lies im.blocks (o.root.epoch + 1) (reads new) rest.disk)
        (record { newest = rest.newest; has_older = (0, first_left); has_newer = rest.found })
        (subst (λ (m : ℕ). Shown m (reads new) left.opens.slot left.opens.root (payloads_of left.opens.older) (payloads_of left.opens.newer)) (sym size) left.opens.shown)

    -- the root that counts is the same, with nothing logged on it
    pub over_stays : IsImageOver new w n k
    over_stays = record {
      live =
          ap (λ (r : RootBody). image (store_of (reads new)) r.inode_file) (sym over.root)
          ∙ image_same s (store_of (reads new)) o.root rest.same
          ∙ ap (λ (r : RootBody). image s r.inode_file) over.root
          ∙ over.live;
      image = left;
      blocks = sym size ∙ over.blocks;
      slot = sym one.slots ∙ over.slot;
      root = sym one.roots ∙ over.root;
      words =
          map_is_one im.blocks (reads new) o.slot left.words im.words
          (subst (λ (slot : Slot). HasMap im.blocks (reads new) slot left.words) (sym one.slots) (subst (λ (m : ℕ). HasMap m (reads new) left.opens.slot left.words) (sym size) left.map)) rest.map
          ∙ over.words;
      older = none_spelled left.opens.older (sym one.olders);
      newer = none_spelled left.opens.newer (sym one.newers);
      synced = synced;
    }

-- ---- the mount runs

module _ (d : Disk) (w : World) (n : ℕ) (k : Kept) (over : IsImageOver d w n k) where
  abbrev its : IsImage (reads d) w
  its = over.image

  abbrev opened : Opens its.blocks (reads d) w
  opened = its.opens

  abbrev store : Store
  store = store_of (reads d)

  abbrev tree_of_root : Tree
  tree_of_root = image store opened.root.inode_file

  free_is : free_blocks its.blocks store opened.root ≡ free_data k.words (start_of n Data)
  free_is =
      free_counted its.blocks store opened.root (slice_index its.words) its.sound
      ∙ sym (words_counted is_free_word its.words (start_of its.blocks Data) its.blocks its.map.count (let least = its.disk.size.least in omega (arith, least)))
      ∙ (λ i. free_data (over.words i) (start_of (over.blocks i) Data))

  charged_is : charges_from opened.root.limits (opened.older ++ opened.newer) tree_of_root ≡ 0
  unfolding charges_from
  charged_is = (λ i. charges_from opened.root.limits (over.older i ++ over.newer i) tree_of_root)

  live_is : tree_of_root ≡ w.live
  live_is = ap (λ (r : RootBody). image store r.inode_file) over.root ∙ over.live

  nameless_is : nameless_in tree_of_root ≡ 0
  nameless_is = ap nameless_in (live_is ∙ ap (λ (x : World). x.live) opened.stands.settles) ∙ settled_has_none opened.stands.tree

  pub room_over_is : room_of_image (reads d) w its ≡ fresh (free_data k.words (start_of n Data))
  room_over_is = λ i. mounted (free_is i) (charged_is i) (nameless_is i)

  pub has_room : (room : RoomCounts) → room ≡ fresh (free_data k.words (start_of n Data)) → HasRoomOf (reads d) w room
  has_room room is = (its, is ∙ sym room_over_is)

  module _ (tree : IsTree limits_written w.live) (none : k.changed ≡ no_changes) (written : k.root.limits ≡ limits_written) (closed : Always d (λ c. IsClosed c (base_of n k.root.epoch + 0))) (keeps_back since : ℕ → Bool) (status : Status) where
    abbrev held_at : RoomCounts → LogPosition → Held
    held_at room at = record { world = w; kept = keeps_back; kept_since = since; room = room; at = at; base = k; point = None; disk = d; status = status }

    abbrev here : Held
    here = held_at (room_of_image (reads d) w its) (first_of its.blocks opened.root.epoch)

    ready : Always d (IsReadyAt (first_of its.blocks opened.root.epoch) opened.older)
    ready c crash = record {
      count = ap length (sym over.older);
      ready = record {
        leads = subst (λ (xs : List Change). Leads c (base_of its.blocks opened.root.epoch) opened.root.epoch 0 0 (payloads_of xs) 0) (sym over.older) refl;
        closed = subst (λ (b : ℕ). IsClosed c (b + 0)) (λ i. base_of (sym over.blocks i) (sym over.root i).epoch) (closed c crash);
      };
    }

    its_limits : opened.root.limits ≡ limits_written
    its_limits = ap (λ (r : RootBody). r.limits) over.root ∙ written

    covers : MakesCover limits_written (opened.older ++ opened.newer) tree_of_root w.live
    covers =
        subst (λ (l : Limits). MakesCover l (opened.older ++ opened.newer) tree_of_root w.live) its_limits
        (subst (MakesCover opened.root.limits (opened.older ++ opened.newer) tree_of_root) (sym (ap (λ (x : World). x.live) opened.stands.settles))
        (replay_covers opened.root.limits (opened.older ++ opened.newer) tree_of_root opened.stands.tree opened.stands.applied))

    abbrev runs_here : Runs here w
    runs_here = record {
      is = refl;
      store = store;
      slot = opened.slot;
      root = opened.root;
      words = its.words;
      older = opened.older;
      newer = opened.newer;
      older_spelled = opened.older_spelled;
      newer_spelled = opened.newer_spelled;
      limits = its_limits;
      formatted = Always-synced d (λ c. block_at c 0 ≡ superblock_bytes (record { geometry = its.blocks })) over.synced its.spelled;
      stands = record {
        disk = its.disk;
        shows = Always-synced d (Shows its.blocks store opened.slot opened.root opened.older opened.newer) over.synced (record { shown = opened.shown; same = λ block among. refl });
        map = Always-synced d (λ c. HasMap its.blocks c opened.slot its.words) over.synced its.map;
        sound = its.sound;
      };
      none_later = λ epoch. Always-synced d (λ c. HasNoLater c (base_of its.blocks epoch) (opened.root.epoch + 1)) over.synced (its.none_later epoch);
      log = inl (over.newer, refl, ready);
      cover = covers;
      charged = record {
        free = refl;
        charged = ap (λ (l : Limits). charges_from l (opened.older ++ opened.newer) tree_of_root) its_limits;
        parked = omega arith;
        fits = subst (λ (l : Limits). Fits l (opened.older ++ opened.newer) tree_of_root (free_blocks its.blocks store opened.root)) its_limits its.fits;
      };
      age = its.age;
      frozen = ap (λ (x : World). x.frozen) opened.stands.settles;
    }

    changed_here : HasChanged limits_written k.changed tree_of_root w.live (charges_from opened.root.limits (opened.older ++ opened.newer) tree_of_root)
    changed_here =
        subst (λ (layer : Layer). HasChanged limits_written layer tree_of_root w.live (charges_from opened.root.limits (opened.older ++ opened.newer) tree_of_root)) (sym none)
        (subst (HasChanged limits_written no_changes tree_of_root w.live) (sym charged_is)
        (subst (λ (t : Tree). HasChanged limits_written no_changes tree_of_root t 0) live_is (nothing_changed limits_written tree_of_root)))

    is_ready : IsReady here w runs_here k
    is_ready = record {
      between = record { none_newer = over.newer; epoch = refl; ready = ready; synced = over.synced };
      slot = sym over.slot;
      root = sym over.root;
      words = sym over.words;
      changed = changed_here;
      tree = tree;
    }

    pub runs_over : (room : RoomCounts) (at : LogPosition) → room ≡ fresh (free_data k.words (start_of n Data)) → at ≡ first_of n k.root.epoch → RunsReady (held_at room at) w k
    runs_over room at room_is at_is =
        let there : first_of its.blocks opened.root.epoch ≡ at = (λ i. first_of (over.blocks i) (over.root i).epoch) ∙ sym at_is in
        let rooms : room_of_image (reads d) w its ≡ room = room_over_is ∙ sym room_is in
        subst (λ (p : LogPosition). RunsReady (held_at room p) w k) there
        (subst (λ (r : RoomCounts). RunsReady (held_at r (first_of its.blocks opened.root.epoch)) w k) rooms (record { runs = runs_here; ready = is_ready }))
