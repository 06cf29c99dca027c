-- What the disk of a mounted file system is an image of, call by call.
use Rattle.std.proofs.Common.{◌≡◌, ◌⊎◌, inl, inr, ⊎_elim, ℕ, ◌+◌, ◌*◌, ◌≤◌, Bool, List, [], ◌∷◌, ◌++◌, Option, None, Some, length, replicate, slice_index, refl, sym, ap, subst, ◌∙◌, append-nil, append_assoc, arith}
use Rattle.std.specs.FinMap as map
use Rattle.sn_device.specs.Sectors.{Contents, AreSectors}
use Rattle.sn_device.specs.Disk.{Always, Disk, IsSynced, reads}
use Rattle.sn_device.specs.Crash.{LeavesOnly, Touches}
use Rattle.sn_device.specs.declared.status.Status.{Status}
use Rattle.sn_device.proofs.CrashLemmas.{LeavesOnly-weaker, LeavesOnly-now, Always-reads}
use Rattle.sn_layout.specs.declared.root.RootBody.{RootBody}
use Rattle.sn_limits.specs.declared.limits.Limits.{Limits}
use Rattle.sn_limits.specs.Versions.{limits_written}
use Rattle.sn_model.specs.declared.change.Change.{Change}
use Rattle.sn_model.specs.declared.outcome.Caller.{Caller}
use Rattle.sn_model.specs.declared.outcome.Caller.TheVariants.{Stays, LogsIn, SetsUmask, LogsOut, Opens as OpensFile, OpensNew, Closes, Moves}
use Rattle.sn_model.specs.Changes.{apply}
use Rattle.sn_model.specs.Charges.{charge_for}
use Rattle.sn_model.specs.NameTree.{IsHierarchy, IsTree}
use Rattle.sn_model.specs.Machine.{Running, Stopped}
use Rattle.sn_model.specs.Settling.{dropped, is_held, nameless_in, settle, settled, without_nameless}
use Rattle.sn_model.specs.Steps.{with_caller, with_live}
use Rattle.sn_model.specs.Tree.{Tree}
use Rattle.sn_model.specs.World.{World}
use Rattle.sn_model.proofs.OtherCallLemmas.{caller_live}
use Rattle.sn_ondisk.specs.LogHalf.{InHalf}
use Rattle.sn_ondisk.specs.Trees.{Store}
use Rattle.sn_record.specs.Payload.{IsSpelled}
use Rattle.sn_log.specs.Positions.{IsReadyAt, base_at, behind}
use Rattle.sn_image.specs.Image.{image}
use Rattle.sn_opening.specs.Covering.{MakesCover}
use Rattle.sn_opening.specs.Opens.{IsDisk, Opens}
use Rattle.sn_opening.specs.Worlds.{StandsFor, found, frozen_of}
use Rattle.sn_opening.proofs.CoveringLemmas.{covers_stand, dropping_covers, one_more_covers}
use Rattle.sn_opening.proofs.LogLemmas.{of_position}
use Rattle.sn_opening.proofs.OpeningLemmas.{opens_to_one}
use Rattle.sn_opening.proofs.SpelledLemmas.{spelled_more}
use Rattle.sn_ondisk.proofs.PlaceLemmas.{halves_apart}
use Rattle.sn_held.specs.Rooms.{dropping, logged}
use Rattle.sn_sound.specs.Charges.{Fits}
use Rattle.sn_sound.specs.Disks.{IsFormatted}
use Rattle.sn_sound.specs.Logs.{HasAgeLeft}
use Rattle.sn_sound.specs.Maps.{free_blocks}
use Rattle.sn_sound.proofs.DiskLemmas.{one_size}
use Rattle.sn_sound.proofs.StandingLemmas.{lies_in_data}
use Rattle.sn_held.specs.Held.{CarriesOn, Going, Held, Kept, Runs, RunsReady}
use Rattle.sn_held.specs.Images.{IsImage}
use Rattle.sn_held.specs.Moments.{LastsOver, ShowsState}
use Rattle.sn_held.specs.Room.{HasRoomFor, IsCharged}
use Rattle.sn_held.specs.Events.{IsOfTree, LeavesEither, LeavesMore}
use Rattle.sn_held.proofs.RoomLemmas.{one_more_charged, one_more_fits}
use Rattle.sn_held.proofs.HeldLemmas.{Rests, image_newer, image_older, image_shown, older_none, older_shows, rests_stay}

-- ---- what a crash leaves of a mount that runs

-- contents that a crash leaves have as many sectors, and whole ones
pub disk_always : (n : ℕ) (d : Disk) → IsDisk n (reads d) → Always d (IsDisk n)
disk_always n d disk c crash = record { size = disk.size; whole = crash.whole; long = subst (λ (m : ℕ). 8 * n ≤ m) (sym crash.others.count) disk.long }

-- a root with changes that cover the live tree stands for the settled world
pub stands_of : (s : Store) (root : RootBody) (changes : List Change) (w : World) → root.limits ≡ limits_written → MakesCover limits_written changes (image s root.inode_file) w.live → w.frozen ≡ frozen_of s root.snapshots
    → StandsFor s root changes (settle w)
stands_of s root changes w limits cover frozen =
    let settles : found w.live (frozen_of s root.snapshots) ≡ settle w = λ i. record { live = settled w.live; frozen = sym frozen i; sessions = replicate 64 None; descriptors = map.empty } in
    subst (StandsFor s root changes) settles
    (covers_stand s root changes w.live (subst (λ (l : Limits). MakesCover l changes (image s root.inode_file) w.live) (sym limits) cover))

-- what is charged of a mount that runs fits in what its root leaves free
pub fits_now : (h : Held) (w : World) (r : Runs h w) → Fits r.root.limits (r.older ++ r.newer) (image r.store r.root.inode_file) (free_blocks h.at.blocks r.store r.root)
fits_now h w r =
    subst (λ (l : Limits). Fits l (r.older ++ r.newer) (image r.store r.root.inode_file) (free_blocks h.at.blocks r.store r.root)) (sym r.limits)
    (subst (Fits limits_written (r.older ++ r.newer) (image r.store r.root.inode_file)) r.charged.free r.charged.fits)

module _ (h : Held) (w : World) (r : Runs h w) where
  pub stands_for : StandsFor r.store r.root (r.older ++ r.newer) (settle w)
  stands_for = stands_of r.store r.root (r.older ++ r.newer) w r.limits r.cover r.frozen

  pub runs_show : Always h.disk (λ c. IsImage c (settle w))
  runs_show c crash =
      image_shown h.at.blocks r.store r.slot r.root r.words r.older r.newer (settle w) r.older_spelled r.newer_spelled r.stands.sound stands_for (fits_now h w r) r.age c
      (disk_always h.at.blocks h.disk r.stands.disk c crash) (r.formatted c crash) (r.stands.map c crash) (λ epoch. r.none_later epoch c crash) (r.stands.shows c crash)

-- ---- what a call leaves of the tree

caller_frozen : (w : World) (session : ℕ) (caller : Caller) → (with_caller w session caller).frozen ≡ w.frozen
caller_frozen w session Stays = refl
caller_frozen w session (LogsIn s) = refl
caller_frozen w session (SetsUmask mask) = refl
caller_frozen w session LogsOut = refl
caller_frozen w session (OpensFile fd home number flags) = refl
caller_frozen w session (OpensNew fd flags) = refl
caller_frozen w session (Closes fd) = refl
caller_frozen w session (Moves fd offset) = refl

pub left_of_tree : (w : World) (session : ℕ) (caller : Caller) (tree : Tree) → IsOfTree w tree (dropped (with_caller (with_live w tree) session caller))
left_of_tree w session caller tree = record {
  held = is_held (with_caller (with_live w tree) session caller);
  live = ap (without_nameless (is_held (with_caller (with_live w tree) session caller))) (caller_live (with_live w tree) session caller);
  frozen = caller_frozen (with_live w tree) session caller;
}

pub left_covers : (changes : List Change) (from tree live : Tree) (held : ℕ → Bool) → live ≡ without_nameless held tree → MakesCover limits_written changes from tree → MakesCover limits_written changes from live
left_covers changes from tree live held e m = subst (MakesCover limits_written changes from) (sym e) (dropping_covers limits_written changes from tree held m)

-- dropping files without names changes nothing of the disk
unfoldable pub dropped_runs : (h : Held) (w next : World) (kept since : ℕ → Bool) (count : ℕ) (base : Kept) → Runs h w → IsOfTree w w.live next → nameless_in w.live ≤ nameless_in next.live + count → Runs (record h { world = next; kept = kept; kept_since = since; room = dropping count h.room; base = base }) next
dropped_runs h w next kept since count base r of counted = record {
  is = refl;
  store = r.store;
  slot = r.slot;
  root = r.root;
  words = r.words;
  older = r.older;
  newer = r.newer;
  older_spelled = r.older_spelled;
  newer_spelled = r.newer_spelled;
  limits = r.limits;
  formatted = r.formatted;
  stands = r.stands;
  none_later = r.none_later;
  log = r.log;
  cover = left_covers (r.older ++ r.newer) (image r.store r.root.inode_file) w.live next.live of.held of.live r.cover;
  frozen = of.frozen ∙ r.frozen;
  charged = record { free = r.charged.free; charged = r.charged.charged; parked = omega (arith, r.charged.parked, counted); fits = r.charged.fits };
  age = r.age;
}

-- ---- a change of the live tree that is appended

-- it comes after all changes, whichever half it is in
behind_older : (older newer : List Change) (change : Change) → newer ≡ [] → (older ++ newer) ++ change ∷ [] ≡ (older ++ change ∷ []) ++ newer
behind_older older newer change none =
    subst (λ (ns : List Change). (older ++ ns) ++ change ∷ [] ≡ (older ++ change ∷ []) ++ ns) (sym none)
    (ap (λ (cs : List Change). cs ++ change ∷ []) (append-nil older) ∙ sym (append-nil (older ++ change ∷ [])))

module _ (old new : Held) (w next : World) (change : Change) (tree : Tree) (r : Runs old w) (spelled : IsSpelled change) (applied : apply limits_written change w.live ≡ Some tree) (of : IsOfTree w tree next)
    (hierarchy : IsHierarchy w.live) (has_room : HasRoomFor old.room w.live change) (aged : HasAgeLeft r.root) (touched : Touches (InHalf (base_at old.at)) old.disk new.disk) where
  abbrev pub n : ℕ
  n = old.at.blocks

  more_covers : MakesCover limits_written ((r.older ++ r.newer) ++ change ∷ []) (image r.store r.root.inode_file) next.live
  more_covers =
      left_covers ((r.older ++ r.newer) ++ change ∷ []) (image r.store r.root.inode_file) tree next.live of.held of.live
      (one_more_covers limits_written (r.older ++ r.newer) change (image r.store r.root.inode_file) w.live tree r.cover applied)

  more_frozen : next.frozen ≡ frozen_of r.store r.root.snapshots
  more_frozen = of.frozen ∙ r.frozen

  -- what is charged after it
  all_fit : Fits limits_written ((r.older ++ r.newer) ++ change ∷ []) (image r.store r.root.inode_file) old.room.free
  all_fit = one_more_fits old.room n r.store r.root (r.older ++ r.newer) change w.live r.charged r.cover hierarchy has_room

  more_charged : nameless_in w.live ≤ nameless_in next.live → (changes : List Change) → changes ≡ (r.older ++ r.newer) ++ change ∷ [] → IsCharged (logged (charge_for limits_written w.live change) old.room) n r.store r.root changes next.live
  more_charged no_fewer changes is = subst (λ (cs : List Change). IsCharged (logged (charge_for limits_written w.live change) old.room) n r.store r.root cs next.live) (sym is) (record {
    free = r.charged.free;
    charged = sym (one_more_charged (r.older ++ r.newer) change (image r.store r.root.inode_file) w.live r.cover hierarchy ∙ ap (λ (k : ℕ). k + charge_for limits_written w.live change) (sym r.charged.charged));
    parked = omega (arith, r.charged.parked, no_fewer);
    fits = all_fit;
  })

  more_fits : (changes : List Change) → changes ≡ (r.older ++ r.newer) ++ change ∷ [] → Fits r.root.limits changes (image r.store r.root.inode_file) (free_blocks n r.store r.root)
  more_fits changes is =
      subst (λ (l : Limits). Fits l changes (image r.store r.root.inode_file) (free_blocks n r.store r.root)) (sym r.limits)
      (subst (Fits limits_written changes (image r.store r.root.inode_file)) r.charged.free (subst (λ (cs : List Change). Fits limits_written cs (image r.store r.root.inode_file) old.room.free) (sym is) all_fit))

  -- what stays where the half of the one epoch is written, and where that of the other is
  older_rest : old.at.epoch ≡ r.root.epoch → LeavesOnly old.disk new.disk (Rests n r.store r.slot r.root r.words (r.root.epoch + 1) r.newer)
  older_rest epoch =
      rests_stay n r.store r.slot r.root r.words (r.root.epoch + 1) r.newer r.root.epoch (lies_in_data n r.store r.root (slice_index r.words) r.stands.sound) (halves_apart n r.root.epoch) old.disk new.disk r.stands.disk.whole
      (λ c crash. let shows = r.stands.shows c crash in record { disk = disk_always n old.disk r.stands.disk c crash; spelled = r.formatted c crash; newest = shows.shown.newest; same = shows.same; map = r.stands.map c crash; found = shows.shown.has_newer; none = r.none_later (r.root.epoch + 1) c crash })
      (of_position n r.root.epoch old.at old.disk new.disk refl epoch touched)

  newer_rest : old.at.epoch ≡ r.root.epoch + 1 → LeavesOnly old.disk new.disk (Rests n r.store r.slot r.root r.words r.root.epoch r.older)
  newer_rest epoch =
      rests_stay n r.store r.slot r.root r.words r.root.epoch r.older (r.root.epoch + 1) (lies_in_data n r.store r.root (slice_index r.words) r.stands.sound) (λ i one two. halves_apart n r.root.epoch i two one) old.disk new.disk r.stands.disk.whole
      (λ c crash. let shows = r.stands.shows c crash in record { disk = disk_always n old.disk r.stands.disk c crash; spelled = r.formatted c crash; newest = shows.shown.newest; same = shows.same; map = r.stands.map c crash; found = shows.shown.has_older; none = r.none_later r.root.epoch c crash })
      (of_position n (r.root.epoch + 1) old.at old.disk new.disk refl epoch touched)

  -- a crash leaves the settled world from before it, or from after it
  pub leaves_either : LeavesEither old.at change old.disk new.disk → LeavesOnly old.disk new.disk (λ c. IsImage c (settle w) ⊎ IsImage c (settle next))
  leaves_either leaves = ⊎_elim in_older in_newer r.log
    where
      in_older : (r.newer ≡ []) × (old.at.epoch ≡ r.root.epoch) × Always old.disk (IsReadyAt old.at r.older) → LeavesOnly old.disk new.disk (λ c. IsImage c (settle w) ⊎ IsImage c (settle next))
      in_older (none, epoch, is_ready) =
          let rest = older_rest epoch in
          let either = leaves r.older is_ready in
          let stands = stands_of r.store r.root ((r.older ++ change ∷ []) ++ r.newer) next r.limits (subst (λ (cs : List Change). MakesCover limits_written cs (image r.store r.root.inode_file) next.live) (behind_older r.older r.newer change none) more_covers) more_frozen in
          record {
            follows = either.follows;
            each = λ c since. ⊎_elim
                (λ ready. inl (image_older n r.store r.slot r.root r.words r.older r.newer (settle w) r.older_spelled r.newer_spelled r.stands.sound (stands_for old w r) (fits_now old w r) r.age c old.at (rest.each c since) refl epoch ready))
                (λ ready. inr (image_older n r.store r.slot r.root r.words (r.older ++ change ∷ []) r.newer (settle next) (spelled_more r.older change r.older_spelled spelled) r.newer_spelled r.stands.sound stands
                (more_fits ((r.older ++ change ∷ []) ++ r.newer) (sym (behind_older r.older r.newer change none))) (λ recovers. aged) c (behind old.at change) (rest.each c since) refl epoch ready))
                (either.each c since);
          }

      in_newer : (old.at.epoch ≡ r.root.epoch + 1) × Always old.disk (IsReadyAt old.at r.newer) → LeavesOnly old.disk new.disk (λ c. IsImage c (settle w) ⊎ IsImage c (settle next))
      in_newer (epoch, is_ready) =
          let rest = newer_rest epoch in
          let either = leaves r.newer is_ready in
          let stands = stands_of r.store r.root (r.older ++ (r.newer ++ change ∷ [])) next r.limits (subst (λ (cs : List Change). MakesCover limits_written cs (image r.store r.root.inode_file) next.live) (append_assoc r.older r.newer (change ∷ [])) more_covers) more_frozen in
          record {
            follows = either.follows;
            each = λ c since. ⊎_elim
                (λ ready. inl (image_newer n r.store r.slot r.root r.words r.older r.newer (settle w) r.older_spelled r.newer_spelled r.stands.sound (stands_for old w r) (fits_now old w r) r.age c old.at (rest.each c since) refl epoch ready))
                (λ ready. inr (image_newer n r.store r.slot r.root r.words r.older (r.newer ++ change ∷ []) (settle next) r.older_spelled (spelled_more r.newer change r.newer_spelled spelled) r.stands.sound stands
                (more_fits (r.older ++ (r.newer ++ change ∷ [])) (sym (append_assoc r.older r.newer (change ∷ [])))) (λ recovers. aged) c (behind old.at change) (rest.each c since) refl epoch ready))
                (either.each c since);
          }

  abbrev pub after : Held
  after = record new { at = behind old.at change; room = logged (charge_for limits_written w.live change) old.room; world = next }

  -- after the append, between two points, the new world runs
  after_runs : (r.newer ≡ []) → old.at.epoch ≡ r.root.epoch → Always old.disk (IsReadyAt old.at r.older) → LeavesMore old.at change old.disk new.disk → AreSectors (reads new.disk) → nameless_in w.live ≤ nameless_in next.live → Runs after next
  after_runs none epoch is_ready leaves whole no_fewer =
      let rests = LeavesOnly-now old.disk new.disk (Rests n r.store r.slot r.root r.words (r.root.epoch + 1) r.newer) (older_rest epoch) in
      let more = leaves r.older is_ready in
      record {
        is = refl;
        store = r.store;
        slot = r.slot;
        root = r.root;
        words = r.words;
        older = r.older ++ change ∷ [];
        newer = r.newer;
        older_spelled = spelled_more r.older change r.older_spelled spelled;
        newer_spelled = r.newer_spelled;
        limits = r.limits;
        formatted = λ c crash. (rests c crash).spelled;
        stands = record {
          disk = Always-reads new.disk (IsDisk n) whole (λ c crash. (rests c crash).disk);
          shows = λ c crash. older_shows n r.store r.slot r.root r.words (r.older ++ change ∷ []) r.newer c (behind old.at change) (rests c crash) refl epoch (more c crash);
          map = λ c crash. (rests c crash).map;
          sound = r.stands.sound;
        };
        none_later = λ e c crash. older_none n r.store r.slot r.root r.words (r.older ++ change ∷ []) r.newer c (behind old.at change) (rests c crash) refl epoch (more c crash) e;
        log = inl (none, epoch, more);
        cover = subst (λ (cs : List Change). MakesCover limits_written cs (image r.store r.root.inode_file) next.live) (behind_older r.older r.newer change none) more_covers;
        charged = more_charged no_fewer ((r.older ++ change ∷ []) ++ r.newer) (sym (behind_older r.older r.newer change none));
        age = λ recovers. aged;
        frozen = more_frozen;
      }

  pub runs_lasts : LeavesEither old.at change old.disk new.disk → Runs new next → LastsOver (Running w) (Running next) old.disk new.disk
  runs_lasts leaves runs = record { moments = leaves_either leaves; answered = runs_show new next runs }

  -- and where the device failed, the mount has stopped between the two
  pub stops_between : LeavesEither old.at change old.disk new.disk → Always new.disk (ShowsState (Stopped (settle w) (settle next)))
  stops_between leaves = LeavesOnly-now old.disk new.disk (λ c. IsImage c (settle w) ⊎ IsImage c (settle next)) (leaves_either leaves)

  pub stops_lasts : LeavesEither old.at change old.disk new.disk → LastsOver (Running w) (Stopped (settle w) (settle next)) old.disk new.disk
  stops_lasts leaves = record {
    moments = LeavesOnly-weaker old.disk new.disk (λ c. IsImage c (settle w) ⊎ IsImage c (settle next)) (λ c. ShowsState (Running w) c ⊎ ShowsState (Stopped (settle w) (settle next)) c) (λ c h. inr h) (leaves_either leaves);
    answered = stops_between leaves;
  }

-- ---- what makes a mount ready for a point

-- whatever numbers are kept back, whatever is kept for a point, and whatever the device has counted
unfoldable pub runs_beside : (h : Held) (w : World) (kept since : ℕ → Bool) (base : Kept) (point : Option Going) (status : Status) → Runs h w → Runs (record h { kept = kept; kept_since = since; base = base; point = point; status = status }) w
runs_beside h w kept since base point status r = record {
  is = r.is;
  store = r.store;
  slot = r.slot;
  root = r.root;
  words = r.words;
  older = r.older;
  newer = r.newer;
  older_spelled = r.older_spelled;
  newer_spelled = r.newer_spelled;
  limits = r.limits;
  formatted = r.formatted;
  stands = r.stands;
  none_later = r.none_later;
  log = r.log;
  cover = r.cover;
  charged = r.charged;
  age = r.age;
  frozen = r.frozen;
}

-- so it stays ready for a point of what is kept
pub ready_with : (h : Held) (w : World) (k : Kept) (kept since : ℕ → Bool) (base : Kept) (point : Option Going) (status : Status) → RunsReady h w k → RunsReady (record h { kept = kept; kept_since = since; base = base; point = point; status = status }) w k
unfolding runs_beside
ready_with h w k kept since base point status ready =
    let is = ready.ready in
    record {
      runs = runs_beside h w kept since base point status ready.runs;
      ready = record {
        between = record { none_newer = is.between.none_newer; epoch = is.between.epoch; ready = is.between.ready; synced = is.between.synced };
        slot = is.slot;
        root = is.root;
        words = is.words;
        changed = is.changed;
        tree = is.tree;
      };
    }

-- files without names that are dropped
pub drops_ready : (h : Held) (w next : World) (kept since : ℕ → Bool) (count : ℕ) (base : Kept) → RunsReady h w h.base → IsOfTree w w.live next → nameless_in w.live ≤ nameless_in next.live + count
    → CarriesOn h.base w.live h.room.charged base next.live h.room.charged → IsTree limits_written next.live → RunsReady (record h { world = next; kept = kept; kept_since = since; room = dropping count h.room; base = base }) next base
unfolding dropped_runs
drops_ready h w next kept since count base ready of counted carried tree =
    let is = ready.ready in
    record {
      runs = dropped_runs h w next kept since count base ready.runs of counted;
      ready = record {
        between = record { none_newer = is.between.none_newer; epoch = is.between.epoch; ready = is.between.ready; synced = is.between.synced };
        slot = carried.slot ∙ is.slot;
        root = carried.root ∙ is.root;
        words = carried.words ∙ is.words;
        changed = carried.changed (image ready.runs.store ready.runs.root.inode_file) is.changed;
        tree = tree;
      };
    }

-- a change that is appended
pub appends_ready : (old new : Held) (w next : World) (change : Change) (tree : Tree) → RunsReady old w old.base → IsSpelled change → apply limits_written change w.live ≡ Some tree → IsOfTree w tree next → IsHierarchy w.live → HasRoomFor old.room w.live change → HasAgeLeft old.base.root
    → Touches (InHalf (base_at old.at)) old.disk new.disk → LeavesMore old.at change old.disk new.disk
    → AreSectors (reads new.disk) → IsSynced new.disk → new.at ≡ behind old.at change → new.room ≡ logged (charge_for limits_written w.live change) old.room → new.world ≡ next → nameless_in w.live ≤ nameless_in next.live
    → CarriesOn old.base w.live old.room.charged new.base next.live (old.room.charged + charge_for limits_written w.live change) → IsTree limits_written next.live → RunsReady new next new.base
unfolding after_runs
appends_ready old new w next change tree ready spelled applied of hierarchy has_room aged touched leaves whole synced at charged is no_fewer carried hierarchic =
    let r = ready.runs in
    let between = ready.ready.between in
    subst (λ (h : Held). RunsReady h next new.base) (λ i. record new { at = sym at i; room = sym charged i; world = sym is i })
    (record {
      runs = after_runs old new w next change tree r spelled applied of hierarchy has_room (subst HasAgeLeft ready.ready.root aged) touched between.none_newer between.epoch between.ready leaves whole no_fewer;
      ready = record {
        between = record { none_newer = between.none_newer; epoch = between.epoch; ready = leaves r.older between.ready; synced = synced };
        slot = carried.slot ∙ ready.ready.slot;
        root = carried.root ∙ ready.ready.root;
        words = carried.words ∙ ready.ready.words;
        changed = carried.changed (image r.store r.root.inode_file) ready.ready.changed;
        tree = hierarchic;
      };
    })

-- ---- one world

-- contents are formatted for one size
formatted_of : (c : Contents) (w : World) (im : IsImage c w) → IsFormatted (length c) c im.blocks
formatted_of c w im = record { size = im.disk.size; spelled = im.spelled; room = im.disk.long }

pub images_one : (c : Contents) (w other : World) → IsImage c w → IsImage c other → w ≡ other
images_one c w other a b =
    opens_to_one a.blocks c w other a.disk a.opens
    (subst (λ (n : ℕ). Opens n c other) (sym (one_size (length c) c a.blocks b.blocks (formatted_of c w a) (formatted_of c other b))) b.opens)
