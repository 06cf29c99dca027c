-- What the beginning of a point leaves of the world that a mount runs over.
use Rattle.std.proofs.Common.{◌≡◌, inl, inr, ℕ, ◌+◌, ◌≤◌, List, [], ◌++◌, Result, slice_index, refl, sym, subst, arith}
use Rattle.std.specs.Prelude.{OnOk}
use Rattle.sn_device.specs.Sectors.{Contents, DependsOn}
use Rattle.sn_device.specs.Disk.{Disk, Always}
use Rattle.sn_device.specs.Crash.{LeavesOnly, Touches}
use Rattle.sn_device.proofs.CrashLemmas.{Always-kept, LeavesOnly-now}
use Rattle.sn_block.proofs.EffectLemmas.{OnOk-then}
use Rattle.sn_layout.specs.Superblock.{superblock_bytes}
use Rattle.sn_log.specs.Positions.{IsReadyAt, first_of}
use Rattle.sn_model.specs.declared.change.Change.{Change}
use Rattle.sn_model.specs.Settling.{settle}
use Rattle.sn_model.specs.World.{World}
use Rattle.sn_ondisk.specs.Blocks.{block_at}
use Rattle.sn_ondisk.specs.LogHalf.{HasNoLater, InHalf, base_of}
use Rattle.sn_ondisk.specs.MapCopy.{HasMap}
use Rattle.sn_ondisk.proofs.LogLemmas.{no_later-same}
use Rattle.sn_ondisk.proofs.PlaceLemmas.{halves_apart}
use Rattle.sn_image.specs.Image.{image}
use Rattle.sn_opening.specs.Opens.{IsDisk, LieInData, Shows}
use Rattle.sn_opening.specs.Spelled.{AreSpelled}
use Rattle.sn_opening.specs.Worlds.{StandsFor, all_reach}
use Rattle.sn_sound.specs.Charges.{Fits}
use Rattle.sn_sound.specs.Logs.{HasAgeLeft, IsToRecover}
use Rattle.sn_sound.specs.Maps.{free_blocks}
use Rattle.sn_sound.proofs.StandingLemmas.{lies_in_data}
use Rattle.sn_held.specs.Held.{Held, IsBetween, Runs}
use Rattle.sn_held.specs.Images.{IsImage}
use Rattle.sn_held.proofs.EventLemmas.{disk_always, fits_now, stands_for}
use Rattle.sn_held.proofs.HeldLemmas.{Rests, each_half, image_shown, ready_no_later, rests_stay}
use Rattle.sn_cp.specs.Beginning.{Begins}
use Rattle.sn_cp_held.specs.Wholes.{HasBegun}

-- ---- the first place of a half of the log

pub no_later_depends : (n epoch bound : ℕ) → DependsOn (InHalf (base_of n epoch)) (λ c. HasNoLater c (base_of n epoch) bound)
no_later_depends n epoch bound c d whole_c whole_d agrees none = no_later-same c d (base_of n epoch) bound (λ i from to. agrees.same i (from, omega (arith, to))) none

pub later_weaker : (c : Contents) (base epoch bound : ℕ) → epoch ≤ bound → HasNoLater c base epoch → HasNoLater c base bound
later_weaker c base epoch bound less (inl closed) = inl closed
later_weaker c base epoch bound less (inr early) = inr (omega (arith, less, early))

module _ (h : Held) (world : World) (r : Runs h world) where
  abbrev n : ℕ
  n = h.at.blocks

  lie : LieInData n (all_reach r.store r.root)
  lie = lies_in_data n r.store r.root (slice_index r.words) r.stands.sound

  -- where the root is shown with its own records, and none of the next epoch
  root_image : r.newer ≡ [] → (c : Contents) → IsDisk n c → block_at c 0 ≡ superblock_bytes (record { geometry = n }) → HasMap n c r.slot r.words → ((epoch : ℕ) → HasNoLater c (base_of n epoch) (r.root.epoch + 1))
      → Shows n r.store r.slot r.root r.older [] c → IsImage c (settle world)
  root_image none_newer =
      image_shown n r.store r.slot r.root r.words r.older [] (settle world) r.older_spelled (subst AreSpelled none_newer r.newer_spelled) r.stands.sound
      (subst (λ (ns : List Change). StandsFor r.store r.root (r.older ++ ns) (settle world)) none_newer (stands_for h world r))
      (subst (λ (ns : List Change). Fits r.root.limits (r.older ++ ns) (image r.store r.root.inode_file) (free_blocks n r.store r.root)) none_newer (fits_now h world r))
      (subst (λ (ns : List Change). IsToRecover r.root (r.older ++ ns) (image r.store r.root.inode_file) → HasAgeLeft r.root) none_newer r.age)

  -- ---- the beginning

  module _ {T E : Type 0} (result : Result T E) (d : Disk) (between : IsBetween h world r) (begins : Begins h.at result h.disk d) where
    half_touched : Touches (InHalf (base_of n (r.root.epoch + 1))) h.disk d
    half_touched = subst (λ (e : ℕ). Touches (InHalf (base_of n (e + 1))) h.disk d) between.epoch begins.touched

    rests : LeavesOnly h.disk d (Rests n r.store r.slot r.root r.words r.root.epoch r.older)
    rests =
        rests_stay n r.store r.slot r.root r.words r.root.epoch r.older (r.root.epoch + 1) lie (λ i one two. halves_apart n r.root.epoch i two one) h.disk d r.stands.disk.whole
        (λ c crash. let shows = r.stands.shows c crash in record {
          disk = disk_always n h.disk r.stands.disk c crash;
          spelled = r.formatted c crash;
          newest = shows.shown.newest;
          same = shows.same;
          map = r.stands.map c crash;
          found = shows.shown.has_older;
          none = r.none_later r.root.epoch c crash;
        })
        half_touched

    shows_none_newer : LeavesOnly h.disk d (Shows n r.store r.slot r.root r.older [])
    shows_none_newer =
        begins.shown r.store r.slot r.root r.older between.synced (sym between.epoch) lie
        (subst (λ (ns : List Change). Always h.disk (Shows n r.store r.slot r.root r.older ns)) between.none_newer r.stands.shows)

    next_none_later : LeavesOnly h.disk d (λ c. HasNoLater c (base_of n (r.root.epoch + 1)) (r.root.epoch + 1))
    next_none_later =
        subst (λ (e : ℕ). LeavesOnly h.disk d (λ c. HasNoLater c (base_of n (e + 1)) (r.root.epoch + 1))) between.epoch
        (begins.none_later (r.root.epoch + 1) between.synced
        (subst (λ (e : ℕ). Always h.disk (λ c. HasNoLater c (base_of n (e + 1)) (r.root.epoch + 1))) (sym between.epoch) (r.none_later (r.root.epoch + 1))))

    pub begin_leaves : LeavesOnly h.disk d (λ c. IsImage c (settle world))
    begin_leaves = record {
      follows = shows_none_newer.follows;
      each = λ c since.
          let rest = rests.each c since in
          root_image between.none_newer c rest.disk rest.spelled rest.map
          (each_half n r.root.epoch (λ (b : ℕ). HasNoLater c b (r.root.epoch + 1)) rest.none (next_none_later.each c since))
          (shows_none_newer.each c since);
    }

    own_none_later : Always d (λ c. HasNoLater c (base_of n r.root.epoch) r.root.epoch)
    own_none_later =
        Always-kept (InHalf (base_of n (r.root.epoch + 1))) (InHalf (base_of n r.root.epoch)) (λ c. HasNoLater c (base_of n r.root.epoch) r.root.epoch) (no_later_depends n r.root.epoch r.root.epoch)
        (λ i one two. halves_apart n r.root.epoch i two one) h.disk d r.stands.disk.whole
        (λ c crash.
        let fits = (r.stands.shows c crash).shown.newest.body.fits.epoch.most in
        ready_no_later n c h.at r.older r.root.epoch r.root.epoch (disk_always n h.disk r.stands.disk c crash) refl between.epoch (omega arith) (omega (arith, fits)) (between.ready c crash))
        half_touched

    pub has_begun : OnOk result (HasBegun h world r d)
    has_begun = OnOk-then result begun begins.ready
      where
        begun : Always d (IsReadyAt (first_of h.at.blocks (h.at.epoch + 1)) []) → HasBegun h world r d
        begun ready =
            let rest = LeavesOnly-now h.disk d (Rests n r.store r.slot r.root r.words r.root.epoch r.older) rests in
            let on = subst (λ (e : ℕ). Always d (IsReadyAt (first_of n (e + 1)) [])) between.epoch ready in
            record {
              shows = LeavesOnly-now h.disk d (Shows n r.store r.slot r.root r.older []) shows_none_newer;
              around = λ c crash. let here = rest c crash in record { disk = here.disk; formatted = here.spelled; map = here.map; none_later = own_none_later c crash; ready = on c crash };
            }
