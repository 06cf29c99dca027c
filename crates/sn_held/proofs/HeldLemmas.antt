-- What a write to the log leaves of the image that a mounted file system keeps.
use Rattle.std.proofs.Common.{◌≡◌, ◌⊎◌, inl, inr, ⊎_elim, ℕ, ◌+◌, ◌*◌, ◌^◌, ◌<◌, ◌≤◌, List, [], ◌∷◌, ◌++◌, slice_index, refl, sym, subst, ◌∙◌, arith}
use Rattle.sn_device.specs.Sectors.{Contents, AreSectors, AreDisjoint, DependsOn, Union}
use Rattle.sn_device.specs.Disk.{Disk, Always, reads}
use Rattle.sn_device.specs.Crash.{LeavesOnly, Touches}
use Rattle.sn_device.proofs.CrashLemmas.{LeavesOnly-touched}
use Rattle.sn_layout.specs.declared.geometry.Area.TheVariants.{Log}
use Rattle.sn_layout.specs.declared.geometry.LogHalf.{LogHalf}
use Rattle.sn_layout.specs.declared.geometry.LogHalf.TheVariants.{Zero, One}
use Rattle.sn_layout.specs.declared.geometry.Slot.{Slot}
use Rattle.sn_layout.specs.declared.root.RootBody.{RootBody}
use Rattle.sn_layout.specs.Geometry.{half_of_epoch, start_of}
use Rattle.sn_layout.specs.Superblock.{superblock_bytes}
use Rattle.sn_model.specs.declared.change.Change.{Change}
use Rattle.sn_model.specs.World.{World}
use Rattle.sn_ondisk.specs.Blocks.{InBlock, InBlocks, block_at}
use Rattle.sn_ondisk.specs.Gates.{IsClosed}
use Rattle.sn_ondisk.specs.LogHalf.{HasNoLater, InHalf, IsReady, Replays, base_of}
use Rattle.sn_ondisk.specs.MapCopy.{HasMap, InMap}
use Rattle.sn_ondisk.specs.Roots.{IsNewest, InRoots}
use Rattle.sn_ondisk.specs.TreeLaws.{SameIn}
use Rattle.sn_ondisk.specs.Trees.{Store, store_of}
use Rattle.sn_ondisk.proofs.BlockLemmas.{bytes_at-same}
use Rattle.sn_ondisk.proofs.LogLemmas.{ReplaysTo-same, no_later-same}
use Rattle.sn_ondisk.proofs.MapLemmas.{HasMap-same}
use Rattle.sn_ondisk.proofs.OneLemmas.{epoch_is}
use Rattle.sn_ondisk.proofs.PlaceLemmas.{areas_apart, half_from, halves_of}
use Rattle.sn_ondisk.proofs.RootLemmas.{IsNewest-same}
use Rattle.sn_log.specs.Positions.{LogPosition, IsReadyAt, payloads_of}
use Rattle.sn_opening.specs.Opens.{IsDisk, LieInData, Shows}
use Rattle.sn_opening.specs.Spelled.{AreSpelled}
use Rattle.sn_opening.specs.Worlds.{StandsFor, all_reach}
use Rattle.sn_opening.proofs.LogLemmas.{log_and_data, replayed}
use Rattle.sn_opening.proofs.OpeningLemmas.{half_lies, same_depends, standing_depends}
use Rattle.sn_image.specs.Image.{image}
use Rattle.sn_sound.specs.Charges.{Fits}
use Rattle.sn_sound.specs.Logs.{HasAgeLeft, IsToRecover}
use Rattle.sn_sound.specs.Maps.{IsSoundRoot, free_blocks}
use Rattle.sn_sound.proofs.StandingLemmas.{root_same}
use Rattle.sn_held.specs.Images.{IsImage}
use Rattle.sn_held.proofs.RoomLemmas.{fits_same, image_same}

-- ---- all of an image but the records of one half

-- the superblock, the root with its map and its blocks, and the records of the epoch whose half stays
pub record Rests (n : ℕ) (s : Store) (slot : Slot) (root : RootBody) (words : List ℕ) (epoch : ℕ) (kept : List Change) (c : Contents) : Type 0 where
  pub disk : IsDisk n c
  pub spelled : block_at c 0 ≡ superblock_bytes (record { geometry = n })
  pub newest : IsNewest c slot root
  pub same : SameIn (all_reach s root) s (store_of c)
  pub map : HasMap n c slot words
  pub found : Replays c (base_of n epoch) epoch (payloads_of kept)
  pub none : HasNoLater c (base_of n epoch) (root.epoch + 1)

abbrev InRests : ℕ → Store → Slot → RootBody → ℕ → ℕ → Type 0
InRests n s slot root epoch = Union (InBlock 0) (Union InRoots (Union (InMap n slot) (Union (InHalf (base_of n epoch)) (InBlocks (all_reach s root)))))

module _ (n : ℕ) (s : Store) (slot : Slot) (root : RootBody) (words : List ℕ) (epoch : ℕ) (kept : List Change) where
  rests_depend : DependsOn (InRests n s slot root epoch) (Rests n s slot root words epoch kept)
  rests_depend c d whole_c whole_d agrees rests = record {
    disk = record { size = rests.disk.size; whole = whole_d; long = subst (λ (m : ℕ). 8 * n ≤ m) (sym agrees.count) rests.disk.long };
    spelled = bytes_at-same c d 0 8 (λ i from to. agrees.same i (inl (from, to))) ∙ rests.spelled;
    newest = IsNewest-same c d slot root (λ i from to. agrees.same i (inr (inl (from, to)))) rests.newest;
    same = same_depends (all_reach s root) s c d whole_c whole_d (record { count = agrees.count; same = λ i is_in. agrees.same i (inr (inr (inr (inr is_in)))) }) rests.same;
    map = HasMap-same n c d slot words (λ i from to. agrees.same i (inr (inr (inl (from, to))))) rests.map;
    found = (rests.found.0, ReplaysTo-same c d (base_of n epoch) epoch (payloads_of kept) rests.found.0 (λ i from to. agrees.same i (inr (inr (inr (inl (from, to)))))) rests.found.1);
    none = no_later-same c d (base_of n epoch) (root.epoch + 1) (λ i from to. agrees.same i (inr (inr (inr (inl (from, omega (arith, to))))))) rests.none;
  }

  -- `other` is the epoch whose half is written
  module _ (other : ℕ) (lie : LieInData n (all_reach s root)) (apart : AreDisjoint (InHalf (base_of n other)) (InHalf (base_of n epoch))) where
    log_and_rests : AreDisjoint (InHalf (base_of n other)) (InRests n s slot root epoch)
    log_and_rests i is (inl block) = omega (arith, is.0, block.1, half_from n (half_of_epoch other))
    log_and_rests i is (inr (inl roots)) = (areas_apart n).roots_and_log other i roots is
    log_and_rests i is (inr (inr (inl map))) = (areas_apart n).maps_and_log slot other i map is
    log_and_rests i is (inr (inr (inr (inl half)))) = apart i is half
    log_and_rests i is (inr (inr (inr (inr among)))) = log_and_data n other (all_reach s root) lie i is among

    pub rests_stay : (old new : Disk) → AreSectors (reads old) → Always old (Rests n s slot root words epoch kept) → Touches (InHalf (base_of n other)) old new → LeavesOnly old new (Rests n s slot root words epoch kept)
    rests_stay old new whole here touched =
        LeavesOnly-touched (InHalf (base_of n other)) (InRests n s slot root epoch) (Rests n s slot root words epoch kept) rests_depend log_and_rests old new whole here touched

-- ---- the first place of a half

-- where a record of an epoch is first, or none is, there is none later
pub ready_no_later : (n : ℕ) (c : Contents) (at : LogPosition) (changes : List Change) (epoch later : ℕ) → IsDisk n c → at.blocks ≡ n → at.epoch ≡ epoch → epoch ≤ later → epoch < 256 ^ 8 → IsReadyAt at changes c
    → HasNoLater c (base_of n epoch) later
ready_no_later n c at changes epoch later disk in_n in_epoch before fits is_ready = here changes
    (subst (λ (e : ℕ). IsReady c (base_of n e) e (payloads_of changes) at.place) in_epoch (subst (λ (m : ℕ). IsReady c (base_of m at.epoch) at.epoch (payloads_of changes) at.place) in_n is_ready.ready))
  where
    here : (changes : List Change) → IsReady c (base_of n epoch) epoch (payloads_of changes) at.place → HasNoLater c (base_of n epoch) later
    here [] r = let first : base_of n epoch + at.place ≡ base_of n epoch = omega (arith, r.leads) in inl (subst (IsClosed c) first r.closed)
    here (change ∷ changes) r =
        let is = epoch_is c (base_of n epoch) epoch (half_lies n epoch c disk) 0 0 _ fits r.leads.1 in
        inr (omega (arith, is, before))

half_is : (epoch other : ℕ) → (half_of_epoch epoch ≡ half_of_epoch other) ⊎ (half_of_epoch epoch ≡ half_of_epoch (other + 1))
half_is epoch other = told (half_of_epoch epoch) (half_of_epoch other) (half_of_epoch (other + 1)) (halves_of other)
  where
    told : (half one two : LogHalf) → ((one ≡ Zero) × (two ≡ One)) ⊎ ((one ≡ One) × (two ≡ Zero)) → (half ≡ one) ⊎ (half ≡ two)
    told Zero one two (inl is) = inl (sym is.0)
    told Zero one two (inr is) = inr (sym is.1)
    told One one two (inl is) = inr (sym is.1)
    told One one two (inr is) = inl (sym is.0)

-- what holds of the halves of an epoch and of the next one holds of each
pub each_half : (n other : ℕ) (P : ℕ → Type 0) → P (base_of n other) → P (base_of n (other + 1)) → (epoch : ℕ) → P (base_of n epoch)
each_half n other P one two epoch = ⊎_elim
    (λ (is : half_of_epoch epoch ≡ half_of_epoch other). subst (λ (half : LogHalf). P (8 * start_of n (Log half))) (sym is) one)
    (λ (is : half_of_epoch epoch ≡ half_of_epoch (other + 1)). subst (λ (half : LogHalf). P (8 * start_of n (Log half))) (sym is) two)
    (half_is epoch other)

-- ---- what is shown once the records of one half are known

-- those of the root's epoch
module _ (n : ℕ) (s : Store) (slot : Slot) (root : RootBody) (words : List ℕ) (older newer : List Change) (c : Contents) (at : LogPosition) (rests : Rests n s slot root words (root.epoch + 1) newer c)
    (in_n : at.blocks ≡ n) (in_epoch : at.epoch ≡ root.epoch) (is_ready : IsReadyAt at older c) where
  pub older_shows : Shows n s slot root older newer c
  older_shows = record { shown = record { newest = rests.newest; has_older = replayed n root.epoch at older c in_n in_epoch is_ready; has_newer = rests.found }; same = rests.same }

  pub older_none : (epoch : ℕ) → HasNoLater c (base_of n epoch) (root.epoch + 1)
  older_none =
      let fits = rests.newest.body.fits.epoch.most in
      each_half n root.epoch (λ (b : ℕ). HasNoLater c b (root.epoch + 1)) (ready_no_later n c at older root.epoch (root.epoch + 1) rests.disk in_n in_epoch (omega arith) (omega (arith, fits)) is_ready) rests.none

-- those of the next one
module _ (n : ℕ) (s : Store) (slot : Slot) (root : RootBody) (words : List ℕ) (older newer : List Change) (c : Contents) (at : LogPosition) (rests : Rests n s slot root words root.epoch older c)
    (in_n : at.blocks ≡ n) (in_epoch : at.epoch ≡ root.epoch + 1) (is_ready : IsReadyAt at newer c) where
  pub newer_shows : Shows n s slot root older newer c
  newer_shows = record { shown = record { newest = rests.newest; has_older = rests.found; has_newer = replayed n (root.epoch + 1) at newer c in_n in_epoch is_ready }; same = rests.same }

  pub newer_none : (epoch : ℕ) → HasNoLater c (base_of n epoch) (root.epoch + 1)
  newer_none =
      let fits = rests.newest.body.fits.epoch.most in
      each_half n root.epoch (λ (b : ℕ). HasNoLater c b (root.epoch + 1)) rests.none (ready_no_later n c at newer (root.epoch + 1) (root.epoch + 1) rests.disk in_n in_epoch (omega arith) (omega (arith, fits)) is_ready)

-- ---- an image

module _ (n : ℕ) (s : Store) (slot : Slot) (root : RootBody) (words : List ℕ) (older newer : List Change) (world : World)
    (older_spelled : AreSpelled older) (newer_spelled : AreSpelled newer) (sound : IsSoundRoot n s root (slice_index words)) (stands : StandsFor s root (older ++ newer) world)
    (fits : Fits root.limits (older ++ newer) (image s root.inode_file) (free_blocks n s root)) (age : IsToRecover root (older ++ newer) (image s root.inode_file) → HasAgeLeft root) where
  pub image_shown : (c : Contents) → IsDisk n c → block_at c 0 ≡ superblock_bytes (record { geometry = n }) → HasMap n c slot words → ((epoch : ℕ) → HasNoLater c (base_of n epoch) (root.epoch + 1)) → Shows n s slot root older newer c → IsImage c world
  image_shown c disk spelled map none shows = record {
    blocks = n;
    disk = disk;
    spelled = spelled;
    opens = record {
      slot = slot;
      root = root;
      older = older;
      newer = newer;
      older_spelled = older_spelled;
      newer_spelled = newer_spelled;
      shown = shows.shown;
      stands = standing_depends s (store_of c) root shows.same (older ++ newer) world stands;
    };
    words = words;
    map = map;
    sound = root_same n s (store_of c) root shows.same (slice_index words) (slice_index words) (λ block. refl) sound;
    none_later = none;
    fits = fits_same n s (store_of c) root words (older ++ newer) shows.same sound fits;
    age = λ recovers. age (subst (IsToRecover root (older ++ newer)) (image_same s (store_of c) root shows.same) recovers);
  }

  -- the records of the root's epoch are written, or those of the next one
  pub image_older : (c : Contents) (at : LogPosition) → Rests n s slot root words (root.epoch + 1) newer c → at.blocks ≡ n → at.epoch ≡ root.epoch → IsReadyAt at older c → IsImage c world
  image_older c at rests in_n in_epoch is_ready =
      image_shown c rests.disk rests.spelled rests.map
      (older_none n s slot root words older newer c at rests in_n in_epoch is_ready) (older_shows n s slot root words older newer c at rests in_n in_epoch is_ready)

  pub image_newer : (c : Contents) (at : LogPosition) → Rests n s slot root words root.epoch older c → at.blocks ≡ n → at.epoch ≡ root.epoch + 1 → IsReadyAt at newer c → IsImage c world
  image_newer c at rests in_n in_epoch is_ready =
      image_shown c rests.disk rests.spelled rests.map
      (newer_none n s slot root words older newer c at rests in_n in_epoch is_ready) (newer_shows n s slot root words older newer c at rests in_n in_epoch is_ready)
