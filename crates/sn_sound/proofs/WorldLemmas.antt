-- What a sound disk opens to is a world of the machine.
use Rattle.std.proofs.Common.{◌≡◌, ℕ, zero, suc, ◌+◌, ◌<◌, ◌≤◌, ◌&&◌, Bool, true, false, cond, List, [], ◌∷◌, length, map, Option, Some, None, Contains, refl, sym, subst, ◌∙◌, arith}
use Rattle.std.specs.Prelude.{IsSomeAnd, IsTrue, nat_le, if◌then◌else◌}
use Rattle.std.specs.Cmp.{nat_cmp_total}
use Rattle.std.specs.Cmp.Lexicographic.{slice_cmp, lists_total}
use Rattle.std.specs.FinMap as fin
use Rattle.std.specs.List.{AllByRecursion}
use Rattle.std.specs.Option.{option_map}
use Rattle.std.specs.Ordering.{nat_cmp}
use Rattle.std.specs.Str.{bytes_eq}
use Rattle.std.proofs.lemmas.Bool.{leb-true}
use Rattle.std.proofs.lemmas.List.{length-map}
use Rattle.std.proofs.lemmas.Slice.Eq.{bytes_eq-Decides}
use Rattle.sn_device.specs.Sectors.{Contents}
use Rattle.sn_limits.specs.SnapshotName.{is_snapshot_name}
use Rattle.sn_limits.specs.declared.limits.Limits.{Limits}
use Rattle.sn_walk.specs.declared.object.Home.TheVariants.{Live}
use Rattle.sn_layout.specs.declared.geometry.Slot.{Slot}
use Rattle.sn_layout.specs.declared.root.RootBody.{RootBody}
use Rattle.sn_layout.specs.declared.snapshot.Snapshot.{Snapshot}
use Rattle.sn_layout.specs.Snapshot.{IsSnapshot, are_distinct, are_rising, are_within}
use Rattle.sn_model.specs.NameTree.{IsTree}
use Rattle.sn_model.specs.Tree.{Tree, names_for}
use Rattle.sn_model.specs.World.{Descriptor, World, descriptor_cmp, new_world}
use Rattle.sn_model.specs.Worlds.{IsFound, IsWorld}
use Rattle.sn_model.proofs.ChainLemmas.{and_left}
use Rattle.sn_model.proofs.ListLemmas.{lists_keep}
use Rattle.sn_model.proofs.MachineLemmas.{settle_tree}
use Rattle.sn_model.proofs.WorldLemmas.{new_is_world}
use Rattle.sn_ondisk.specs.Trees.{store_of}
use Rattle.sn_image.specs.Image.{image}
use Rattle.sn_image.proofs.ByteLemmas.{data_whole}
use Rattle.sn_image.proofs.SoundNameLemmas.{sound_tree}
use Rattle.sn_opening.specs.Opens.{IsDisk, Opens}
use Rattle.sn_opening.specs.Worlds.{frozen_entry, frozen_of, snapshot_named}
use Rattle.sn_opening.proofs.OpeningLemmas.{frozen_at, opens_to_one}
use Rattle.sn_sound.specs.Disks.{IsOfDevice, IsSoundDisk}
use Rattle.sn_sound.specs.Maps.{Rooted, frozen_root, rooted_in}
use Rattle.sn_sound.proofs.DiskLemmas.{is_disk, opens_to_its_world, world_of}
use Rattle.sn_sound.proofs.StandingLemmas.{first_among, more_among}

-- ---- snapshots by their names

-- a snapshot that is found under a name has it, and is one of them
record IsNamed (name : List ℕ) (snapshots : List Snapshot) (x : Snapshot) : Type 0 where
  among : Contains snapshots x
  same : name ≡ x.name

named_in : (name : List ℕ) (snapshots : List Snapshot) (x : Snapshot) → snapshot_named name snapshots ≡ Some x → IsNamed name snapshots x
named_in name [] x e = let never : None ≡ Some x = e in cc
named_in name (y ∷ ys) x e = told (named_in name ys x) (bytes_eq name y.name) refl e
  where
    told : (snapshot_named name ys ≡ Some x → IsNamed name ys x) → (b : Bool) → bytes_eq name y.name ≡ b → (if b then Some y else snapshot_named name ys) ≡ Some x → IsNamed name (y ∷ ys) x
    told later true is f =
        let one : y ≡ x = cc in
        subst (IsNamed name (y ∷ ys)) one (record { among = first_among y ys; same = (bytes_eq-Decides name y.name).0 is })
    told later false is f = let w = later f in record { among = more_among y ys x w.among; same = w.same }

mapped_from : {A B : Type 0} (f : A → B) (o : Option A) (y : B) → option_map f o ≡ Some y → (x : A) × (o ≡ Some x) × (f x ≡ y)
mapped_from f None y e = let never : None ≡ Some y = e in cc
mapped_from f (Some x) y e = (x, refl, cc)

rooted_among : (snapshots : List Snapshot) (x : Snapshot) → Contains snapshots x → Contains (map frozen_root snapshots) (frozen_root x)
rooted_among [] x (k, within, is) = absurd (omega (arith, within))
rooted_among (y ∷ ys) x (zero, within, is) = subst (λ (z : Snapshot). Contains (map frozen_root (y ∷ ys)) (frozen_root z)) is (first_among (frozen_root y) (map frozen_root ys))
rooted_among (y ∷ ys) x (suc k, within, is) = more_among (frozen_root y) (map frozen_root ys) (frozen_root x) (rooted_among ys x (k, omega (arith, within), is))

each_is : (snapshots : List Snapshot) (x : Snapshot) → AllByRecursion IsSnapshot snapshots → Contains snapshots x → IsSnapshot x
each_is [] x all (k, within, is) = absurd (omega (arith, within))
each_is (y ∷ ys) x all (zero, within, is) = subst IsSnapshot is all.0
each_is (y ∷ ys) x all (suc k, within, is) = each_is ys x all.1 (k, omega (arith, within), is)

-- a map has no more keys than it was made of pairs
few_keys : (entries : List (List ℕ × Tree)) → fin.len (fin.from_entries {R = slice_cmp nat_cmp} entries) ≤ length entries
few_keys [] = omega (arith, fin.len-empty (slice_cmp nat_cmp) Tree)
few_keys (e ∷ es) = more (fin.contains_key (fin.from_entries {R = slice_cmp nat_cmp} es) e.0) (fin.len-insert (lists_total nat_cmp_total) (fin.from_entries {R = slice_cmp nat_cmp} es) e.0 e.1) (few_keys es)
  where
    more : (b : Bool) → fin.len (fin.from_entries {R = slice_cmp nat_cmp} (e ∷ es)) ≡ cond b (fin.len (fin.from_entries {R = slice_cmp nat_cmp} es)) (fin.len (fin.from_entries {R = slice_cmp nat_cmp} es) + 1)
        → fin.len (fin.from_entries {R = slice_cmp nat_cmp} es) ≤ length es → fin.len (fin.from_entries {R = slice_cmp nat_cmp} (e ∷ es)) ≤ length (e ∷ es)
    more true is rest = omega (arith, is, rest)
    more false is rest = omega (arith, is, rest)

-- ---- the world of a sound disk

module _ (sectors : ℕ) (c : Contents) (n : ℕ) (slot : Slot) (root : RootBody) (device : IsOfDevice sectors c) (sound : IsSoundDisk sectors c n slot root) where
  disk : IsDisk n c
  disk = is_disk sectors c n slot root device sound

  -- each of its roots denotes a name tree
  root_tree : (r : Rooted) → Contains (rooted_in root) r → IsTree root.limits (image (store_of c) r.inodes)
  root_tree r among = sound_tree root.limits n (store_of c) r.inodes sound.newest.body.fits.version (λ block lies. data_whole c n block disk.whole disk.long lies) (sound.roots.roots r among)

  live_tree : IsTree root.limits sound.log.tree
  live_tree =
      let live : Rooted = record { bit = 0; inodes = root.inode_file } in
      let first = lists_keep root.limits sound.log.older (image (store_of c) root.inode_file) sound.log.middle (root_tree live (first_among live (map frozen_root root.snapshots))) sound.log.has_older.applied in
      lists_keep root.limits sound.log.newer sound.log.middle sound.log.tree first sound.log.has_newer.applied

  -- a frozen tree is that of a snapshot
  record IsOfSnapshot (name : List ℕ) (tree : Tree) : Type 0 where
    snapshot : Snapshot
    named : IsNamed name root.snapshots snapshot
    is : image (store_of c) snapshot.tree ≡ tree

  frozen_from : (name : List ℕ) (tree : Tree) → fin.get (frozen_of (store_of c) root.snapshots) name ≡ Some tree → IsOfSnapshot name tree
  frozen_from name tree e =
      let entry = sym (frozen_at (store_of c) root.snapshots name) ∙ e in
      let m = mapped_from (λ (x : Snapshot). image (store_of c) x.tree) (snapshot_named name root.snapshots) tree entry in
      record { snapshot = m.0; named = named_in name root.snapshots m.0 m.1; is = m.2 }

  few : fin.len (frozen_of (store_of c) root.snapshots) ≤ root.limits.snapshots
  few =
      let held = sound.newest.body.fits.snapshots.held in
      let count = nat_le (length root.snapshots) root.limits.snapshots in
      let rising = are_rising 0 root.snapshots in
      let within = are_within root.limits.largest_bit root.snapshots in
      let many = leb-true (length root.snapshots) root.limits.snapshots (and_left count rising (and_left (count && rising) within (and_left (count && rising && within) (are_distinct root.snapshots) held))) in
      omega (arith, few_keys (map (frozen_entry (store_of c)) root.snapshots), length-map root.snapshots (frozen_entry (store_of c)), many)

  -- the empty live tree with these frozen trees
  abbrev beside : World
  beside = record new_world { frozen = frozen_of (store_of c) root.snapshots }

  new : IsWorld root.limits new_world
  new = new_is_world root.limits.version root.limits sound.newest.body.fits.version

  beside_is : IsWorld root.limits beside
  beside_is = record {
    live = new.live;
    frozen = λ name tree e. let w = frozen_from name tree e in
        subst (IsTree root.limits) w.is (root_tree (frozen_root w.snapshot) (more_among (record { bit = 0; inodes = root.inode_file }) (map frozen_root root.snapshots) (frozen_root w.snapshot) (rooted_among root.snapshots w.snapshot w.named.among)));
    snapshot_names = λ name tree e. let w = frozen_from name tree e in
        subst (λ (m : List ℕ). IsTrue (is_snapshot_name m)) (sym w.named.same) (each_is root.snapshots w.snapshot sound.newest.body.fits.snapshots.each w.named.among).name;
    few_snapshots = few;
    count = new.count;
    callers = new.callers;
    open_files = λ i fd d e. let never : None ≡ Some d = sym (fin.get-empty descriptor_cmp (i, fd)) ∙ e in cc;
    held = new.held;
  }

  abbrev its_world : World
  its_world = world_of sectors c n slot root sound

  whole : IsWorld root.limits its_world
  whole = settle_tree root.limits beside sound.log.tree beside_is live_tree

  is_found : IsFound root.limits its_world
  is_found = record {
    whole = whole;
    settled = record {
      out = refl;
      closed = refl;
      named = λ number kind. positive (names_for its_world.live number) (λ none.
          let w = whole.held number kind none in
          none_open w.0 w.1 (λ d. (d.home ≡ Live) × (d.number ≡ number)) w.2);
    };
  }
    where
      positive : (m : ℕ) → (m ≡ 0 → ⊥) → 0 < m
      positive m h = omega arith

      none_open : (session fd : ℕ) (P : Descriptor → Type 0) → IsSomeAnd (fin.get its_world.descriptors (session, fd)) P → ⊥
      none_open session fd P is = subst (λ (o : Option Descriptor). IsSomeAnd o P) (fin.get-empty descriptor_cmp (session, fd)) is

  pub opens_to_found : (world : World) → Opens n c world → IsFound root.limits world
  opens_to_found world o = subst (IsFound root.limits) (opens_to_one n c its_world world disk (opens_to_its_world sectors c n slot root sound) o) is_found
