-- A root that is in place is sound in whatever a crash leaves.
use Rattle.std.proofs.Common.{◌≡◌, ◌⊎◌, inl, inr, ⊎_elim, ℕ, zero, suc, ◌-◌, ◌==◌, List, [], ◌∷◌, ◌++◌, map, flat_map, Contains, slice_index, refl, sym, ap, subst, ◌∙◌, arith}
use Rattle.std.specs.List.{range_with_len}
use Rattle.std.proofs.lemmas.List.Elements.{Contains-append_left, Contains-append_right, Contains-append_cases}
use Rattle.sn_device.specs.Sectors.{Contents}
use Rattle.sn_device.specs.Disk.{Disk, Always, CrashNow}
use Rattle.sn_layout.specs.declared.geometry.Area.TheVariants.{Data}
use Rattle.sn_layout.specs.declared.geometry.Slot.{Slot}
use Rattle.sn_layout.specs.declared.root.RootBody.{RootBody}
use Rattle.sn_layout.specs.declared.snapshot.Snapshot.{Snapshot}
use Rattle.sn_layout.specs.Geometry.{IsIn, start_of}
use Rattle.sn_model.specs.declared.change.Change.{Change}
use Rattle.sn_model.specs.Changes.{apply_all}
use Rattle.sn_model.specs.Tree.{Tree}
use Rattle.sn_ondisk.specs.MapCopy.{HasMap, map_word}
use Rattle.sn_ondisk.specs.TreeLaws.{SameIn}
use Rattle.sn_ondisk.specs.Trees.{Store, store_of}
use Rattle.sn_ondisk.proofs.MapLemmas.{map_word-spelled}
use Rattle.sn_image.specs.Image.{image}
use Rattle.sn_image.specs.Reach.{reach}
use Rattle.sn_image.proofs.FootprintLemmas.{roots_depend}
use Rattle.sn_opening.specs.Opens.{LieInData, Shows}
use Rattle.sn_opening.specs.Worlds.{all_reach}
use Rattle.sn_sound.specs.Charges.{Fits}
use Rattle.sn_sound.specs.Disks.{IsFormatted, IsSoundDisk}
use Rattle.sn_sound.specs.Logs.{HasSoundLog}
use Rattle.sn_sound.specs.Maps.{IsSetOfRoots, IsSoundRoot, Rooted, free_blocks, frozen_root, rooted_in}
use Rattle.sn_sound.specs.Standing.{LogStands, RootStands}
use Rattle.sn_sound.proofs.FreeLemmas.{free_counted, same_count}
use Rattle.sn_sound.proofs.ReachLemmas.{sound_depends}

none_among : {A B : Type 0} (x : A) → Contains [] x → B
none_among x (k, within, is) = absurd (omega (arith, within))

pub first_among : {A : Type 0} (x : A) (xs : List A) → Contains (x ∷ xs) x
first_among x xs = (zero, omega arith, refl)

pub more_among : {A : Type 0} (x : A) (xs : List A) (y : A) → Contains xs y → Contains (x ∷ xs) y
more_among x xs y (k, within, is) = (suc k, omega (arith, within), is)

first_or_more : {A : Type 0} (x : A) (xs : List A) (y : A) → Contains (x ∷ xs) y → (y ≡ x) ⊎ Contains xs y
first_or_more x xs y (zero, within, is) = inl (sym is)
first_or_more x xs y (suc k, within, is) = inr (k, omega (arith, within), is)

-- ---- what a root reaches is what its roots reach

-- the blocks that snapshots reach
abbrev frozen_reach : Store → List Snapshot → List ℕ
frozen_reach s snapshots = flat_map (λ (snapshot : Snapshot). reach s snapshot.tree) snapshots

reach_has_frozen : (s : Store) (snapshots : List Snapshot) (r : Rooted) (block : ℕ) → Contains (map frozen_root snapshots) r → Contains (reach s r.inodes) block → Contains (frozen_reach s snapshots) block
reach_has_frozen s [] r block among reached = none_among r among
reach_has_frozen s (x ∷ xs) r block among reached = ⊎_elim
    (λ (first : r ≡ frozen_root x). Contains-append_left (reach s x.tree) (frozen_reach s xs) block (subst (λ (y : Rooted). Contains (reach s y.inodes) block) first reached))
    (λ more. Contains-append_right (reach s x.tree) (frozen_reach s xs) block (reach_has_frozen s xs r block more reached))
    (first_or_more (frozen_root x) (map frozen_root xs) r among)

reach_has : (s : Store) (root : RootBody) (r : Rooted) (block : ℕ) → Contains (rooted_in root) r → Contains (reach s r.inodes) block → Contains (all_reach s root) block
reach_has s root r block among reached = ⊎_elim
    (λ (live : r ≡ record { bit = 0; inodes = root.inode_file }). Contains-append_left (reach s root.inode_file) (frozen_reach s root.snapshots) block (subst (λ (y : Rooted). Contains (reach s y.inodes) block) live reached))
    (λ more. Contains-append_right (reach s root.inode_file) (frozen_reach s root.snapshots) block (reach_has_frozen s root.snapshots r block more reached))
    (first_or_more (record { bit = 0; inodes = root.inode_file }) (map frozen_root root.snapshots) r among)

-- what is so of each root's blocks is so of all
frozen_lies : (n : ℕ) (s : Store) (snapshots : List Snapshot) → ((r : Rooted) → Contains (map frozen_root snapshots) r → (block : ℕ) → Contains (reach s r.inodes) block → IsIn n Data block) → LieInData n (frozen_reach s snapshots)
frozen_lies n s [] each block among = none_among block among
frozen_lies n s (x ∷ xs) each block among = ⊎_elim
    (λ here. each (frozen_root x) (first_among (frozen_root x) (map frozen_root xs)) block here)
    (λ more. frozen_lies n s xs (λ r in_more. each r (more_among (frozen_root x) (map frozen_root xs) r in_more)) block more)
    (Contains-append_cases (reach s x.tree) (frozen_reach s xs) block among)

pub lies_in_data : (n : ℕ) (s : Store) (root : RootBody) (word : ℕ → ℕ) → IsSoundRoot n s root word → LieInData n (all_reach s root)
lies_in_data n s root word sound block among =
    let live : Rooted = record { bit = 0; inodes = root.inode_file } in
    ⊎_elim
    (λ here. (sound.roots live (first_among live (map frozen_root root.snapshots))).placed.within block here)
    (λ more. frozen_lies n s root.snapshots (λ r in_more. (sound.roots r (more_among live (map frozen_root root.snapshots) r in_more)).placed.within) block more)
    (Contains-append_cases (reach s root.inode_file) (frozen_reach s root.snapshots) block among)

-- ---- over another store that has the same blocks

module _ (n : ℕ) (s t : Store) (root : RootBody) (same : SameIn (all_reach s root) s t) where
  of_root : (r : Rooted) → Contains (rooted_in root) r → SameIn (reach s r.inodes) s t
  of_root r among block reached = same block (reach_has s root r block among reached)

  reach_same : (r : Rooted) → Contains (rooted_in root) r → reach t r.inodes ≡ reach s r.inodes
  reach_same r among = (roots_depend s t r.inodes (of_root r among)).reach

  set_same : (block word : ℕ) → IsSetOfRoots s (rooted_in root) block word → IsSetOfRoots t (rooted_in root) block word
  set_same block word set = record {
    fits = set.fits;
    bits = λ k. (
      λ is. let by = (set.bits k).0 is in
          record { inodes = by.inodes; among = by.among; reached = subst (λ (blocks : List ℕ). Contains blocks block) (sym (reach_same (record { bit = k; inodes = by.inodes }) by.among)) by.reached },
      λ by. (set.bits k).1 (record { inodes = by.inodes; among = by.among; reached = subst (λ (blocks : List ℕ). Contains blocks block) (reach_same (record { bit = k; inodes = by.inodes }) by.among) by.reached }),
    );
  }

  pub root_same : (word other : ℕ → ℕ) → ((block : ℕ) → other block ≡ word block) → IsSoundRoot n s root word → IsSoundRoot n t root other
  root_same word other words sound = record {
    roots = λ r among. sound_depends s t r.inodes (of_root r among) root.limits n (sound.roots r among);
    map = λ block within. subst (IsSetOfRoots t (rooted_in root) block) (sym (words block)) (set_same block (word block) (sound.map block within));
  }

pub standing_sound : (n : ℕ) (d : Disk) (s : Store) (slot : Slot) (root : RootBody) (words : List ℕ) (older newer : List Change)
    → RootStands n d s slot root words older newer → Always d (λ c. IsSoundRoot n (store_of c) root (map_word n c slot))
standing_sound n d s slot root words older newer stands c crash =
    root_same n s (store_of c) root (stands.shows c crash).same (slice_index words) (map_word n c slot) (map_word-spelled n c slot words (stands.map c crash)) stands.sound

-- ---- the whole disk

module _ (n : ℕ) (c : Contents) (s : Store) (slot : Slot) (root : RootBody) (words : List ℕ) (same : SameIn (all_reach s root) s (store_of c)) where
  live_image : image (store_of c) root.inode_file ≡ image s root.inode_file
  live_image =
      let live : Rooted = record { bit = 0; inodes = root.inode_file } in
      (roots_depend s (store_of c) root.inode_file (of_root n s (store_of c) root same live (first_among live (map frozen_root root.snapshots)))).image

  same_free : HasMap n c slot words → IsSoundRoot n s root (slice_index words) → IsSoundRoot n (store_of c) root (map_word n c slot) → free_blocks n (store_of c) root ≡ free_blocks n s root
  same_free has old new =
      free_counted n (store_of c) root (map_word n c slot) new
      ∙ same_count (λ block. map_word n c slot block == 0) (λ block. slice_index words block == 0) (range_with_len (start_of n Data) (n - start_of n Data))
      (λ block among. ap (λ (w : ℕ). w == 0) (map_word-spelled n c slot words has block))
      ∙ sym (free_counted n s root (slice_index words) old)

  log_sound : (older newer : List Change) (d : Disk) → Shows n s slot root older newer c → LogStands n d s root older newer → CrashNow d c → free_blocks n (store_of c) root ≡ free_blocks n s root
      → HasSoundLog n c root (free_blocks n (store_of c) root)
  log_sound older newer d shows log crash free = record {
    older = older;
    newer = newer;
    middle = log.middle;
    tree = log.tree;
    has_older = record { spelled = log.older_spelled; records = shows.shown.has_older; applied = ap (apply_all root.limits older) live_image ∙ log.older_made };
    has_newer = record { spelled = log.newer_spelled; records = shows.shown.has_newer; applied = log.newer_made };
    none_later = λ epoch. log.none_later epoch c crash;
    fits = subst (λ (t : Tree). Fits root.limits (older ++ newer) t (free_blocks n (store_of c) root)) (sym live_image)
        (subst (Fits root.limits (older ++ newer) (image s root.inode_file)) (sym free) log.fits);
    age = log.age;
  }

pub disk_stands : (sectors n : ℕ) (d : Disk) (s : Store) (slot : Slot) (root : RootBody) (words : List ℕ) (older newer : List Change)
    → Always d (λ c. IsFormatted sectors c n) → RootStands n d s slot root words older newer → LogStands n d s root older newer
    → Always d (λ c. IsSoundDisk sectors c n slot root)
disk_stands sectors n d s slot root words older newer formatted stands log c crash =
    let shows = stands.shows c crash in
    let roots = standing_sound n d s slot root words older newer stands c crash in
    record {
      formatted = formatted c crash;
      newest = shows.shown.newest;
      roots = roots;
      log = log_sound n c s slot root words shows.same older newer d shows log crash (same_free n c s slot root words shows.same (stands.map c crash) stands.sound roots);
    }
