-- A fresh disk opens to the new world, and is sound.
use Rattle.std.proofs.Common.{◌≡◌, ◌≢◌, inl, inr, ⊎_elim, ℕ, zero, suc, ◌+◌, ◌-◌, ◌*◌, ◌<◌, ◌≤◌, ◌==◌, ◌||◌, Bool, true, false, not, cond, List, [], ◌∷◌, replicate, length, Contains, count_by, refl, sym, ap, subst, ◌∙◌, arith}
use Rattle.std.specs.Prelude.{slice_index}
use Rattle.std.specs.Int.{bit_at}
use Rattle.std.specs.List.{list_any, range_with_len}
use Rattle.std.proofs.lemmas.Bool.{cases_eq, cases_lt, eq-eqb, ne_eqb}
use Rattle.std.proofs.lemmas.List.{get_or-append_right, get_or_append_left, length-replicate}
use Rattle.std.proofs.lemmas.List.Sums.{sum_by-cons}
use Rattle.std.proofs.lemmas.Nat.Bits.{bit_at-pow_other, bit_at-pow_same, bit_at-zero}
use Rattle.sn_device.specs.Sectors.{AreSectors, Contents}
use Rattle.sn_limits.specs.Versions.{limits_written}
use Rattle.sn_layout.specs.Geometry.{IsDiskSize, start_of}
use Rattle.sn_layout.specs.declared.geometry.Area.TheVariants.{Data}
use Rattle.sn_layout.specs.declared.geometry.Slot.TheVariants.{A}
use Rattle.sn_layout.specs.declared.tree.BlockTree.{BlockTree}
use Rattle.sn_model.specs.Changes.{apply_all}
use Rattle.sn_model.specs.Settling.{nameless_in, settled}
use Rattle.sn_model.specs.Tree.{Tree}
use Rattle.sn_model.specs.World.{new_world}
use Rattle.sn_ondisk.specs.Gates.{IsClosed}
use Rattle.sn_ondisk.specs.LogHalf.{Replays, base_of}
use Rattle.sn_ondisk.specs.MapCopy.{map_word}
use Rattle.sn_ondisk.specs.Roots.{IsNewest}
use Rattle.sn_ondisk.specs.Trees.{Store, store_of}
use Rattle.sn_ondisk.proofs.MapLemmas.{map_word-spelled}
use Rattle.sn_image.specs.Image.{image}
use Rattle.sn_image.specs.Reach.{reach}
use Rattle.sn_image.specs.Sound.{IsSound}
use Rattle.sn_opening.specs.Opens.{Opens}
use Rattle.sn_opening.specs.Worlds.{StandsFor}
use Rattle.sn_sound.specs.Charges.{Fits, charges_from}
use Rattle.sn_sound.specs.Disks.{IsFormatted, IsSoundDisk}
use Rattle.sn_sound.specs.Logs.{AreReplayed, HasSoundLog}
use Rattle.sn_sound.specs.Maps.{IsSetOfRoots, IsSoundRoot, Rooted, free_blocks, is_reached, rooted_in}
use Rattle.sn_sound.proofs.StandingLemmas.{first_among}
use Rattle.sn_held.specs.Images.{IsImage}
use Rattle.sn_held.proofs.RoomLemmas.{none_nameless}
use Rattle.sn_mkfs.specs.Faults.{HasRoom}
use Rattle.sn_mkfs.specs.Fresh.{IsFresh, fresh_root, fresh_words, inode_file}
use Rattle.sn_mkfs.proofs.InodeLemmas.{zero_at}
use Rattle.sn_mkfs.proofs.TreeLemmas.{image_is, is_sound, reach_is, settled_new}

-- ---- the new tree has no file without names

-- ---- the words of the map

pub room_for_data : (n : ℕ) → IsDiskSize n → start_of n Data < n
room_for_data n size = omega (arith, size.least)

word_first : (n : ℕ) → slice_index (fresh_words n) (start_of n Data) ≡ 1
unfolding fresh_words
word_first n =
    let none : start_of n Data - start_of n Data ≡ 0 = omega arith in
    get_or-append_right (replicate (start_of n Data) 0) (1 ∷ replicate (n - start_of n Data - 1) 0) (start_of n Data) (start_of n Data) 0 (length-replicate {A = ℕ} (start_of n Data) 0) (omega arith)
    ∙ ap (slice_index (1 ∷ replicate (n - start_of n Data - 1) 0)) none

word_other : (n block : ℕ) → block ≢ start_of n Data → slice_index (fresh_words n) block ≡ 0
unfolding fresh_words
word_other n block other = ⊎_elim
    (λ (before : block < start_of n Data). get_or_append_left (replicate (start_of n Data) 0) rest 0 block (omega (arith, before, length-replicate {A = ℕ} (start_of n Data) 0)) ∙ zero_at (start_of n Data) block)
    (λ (after : start_of n Data ≤ block).
    let more : block - start_of n Data ≡ suc (block - start_of n Data - 1) = omega (arith, after, other) in
    get_or-append_right (replicate (start_of n Data) 0) rest (start_of n Data) block 0 (length-replicate {A = ℕ} (start_of n Data) 0) after
    ∙ ap (slice_index rest) more
    ∙ zero_at (n - start_of n Data - 1) (block - start_of n Data - 1))
    (cases_lt block (start_of n Data))
  where
    rest : List ℕ
    rest = 1 ∷ replicate (n - start_of n Data - 1) 0

only_among : {A : Type 0} (x y : A) → Contains (x ∷ []) y → x ≡ y
only_among x y (zero, within, is) = is
only_among x y (suc k, within, is) = absurd (omega (arith, within))

-- ---- the fresh disk

module _ (sectors n : ℕ) (c : Contents) (room : HasRoom sectors n) (fresh : IsFresh n c) where
  abbrev store : Store
  store = store_of c

  abbrev root_rooted : Rooted
  root_rooted = record { bit = 0; inodes = inode_file n }

  reached : (block : ℕ) → is_reached store (rooted_in (fresh_root n)) block ≡ (start_of n Data == block)
  reached block = ap (λ (r : List ℕ). list_any (λ b. b == block) r || false) (reach_is n store fresh.prepared.inodes) ∙ told (start_of n Data == block)
    where
      told : (b : Bool) → ((b || false) || false) ≡ b
      told true = refl
      told false = refl

  set_first : IsSetOfRoots store (rooted_in (fresh_root n)) (start_of n Data) 1
  set_first = record {
    fits = omega arith;
    bits = λ k. (
      λ is. ⊎_elim
          (λ (same : k ≡ 0). record {
            inodes = inode_file n;
            among = subst (λ (bit : ℕ). Contains (rooted_in (fresh_root n)) (record { bit = bit; inodes = inode_file n })) (sym same) (first_among root_rooted []);
            reached = subst (λ (r : List ℕ). Contains r (start_of n Data)) (sym (reach_is n store fresh.prepared.inodes)) (first_among (start_of n Data) []);
          })
          (λ (apart : k ≡ 0 → ⊥). absurd (omega (arith, is, bit_at-pow_other 0 k apart)))
          (cases_eq k 0),
      λ by.
          let bit : 0 ≡ k = ap (λ (r : Rooted). r.bit) (only_among root_rooted (record { bit = k; inodes = by.inodes }) by.among) in
          subst (λ (i : ℕ). bit_at 1 i ≡ 1) bit (bit_at-pow_same 0),
    );
  }

  set_other : (block : ℕ) → block ≢ start_of n Data → IsSetOfRoots store (rooted_in (fresh_root n)) block 0
  set_other block other = record {
    fits = omega arith;
    bits = λ k. (
      λ is. absurd (omega (arith, is, bit_at-zero k)),
      λ by.
          let file : inode_file n ≡ by.inodes = ap (λ (r : Rooted). r.inodes) (only_among root_rooted (record { bit = k; inodes = by.inodes }) by.among) in
          let among = subst (λ (t : BlockTree). Contains (reach store t) block) (sym file) by.reached in
          absurd (other (sym (only_among (start_of n Data) block (subst (λ (r : List ℕ). Contains r block) (reach_is n store fresh.prepared.inodes) among)))),
    );
  }

  sound_root : IsSoundRoot n store (fresh_root n) (map_word n c A)
  sound_root = record {
    roots = λ r among. subst (λ (t : BlockTree). IsSound limits_written n store t) (ap (λ (x : Rooted). x.inodes) (only_among root_rooted r among)) (is_sound n store fresh.prepared.inodes (room_for_data n room.size));
    map = λ block within. subst (IsSetOfRoots store (rooted_in (fresh_root n)) block) (sym (map_word-spelled n c A (fresh_words n) fresh.prepared.map block)) (⊎_elim
        (λ (same : block ≡ start_of n Data). subst (λ (b : ℕ). IsSetOfRoots store (rooted_in (fresh_root n)) b (slice_index (fresh_words n) b)) (sym same)
        (subst (IsSetOfRoots store (rooted_in (fresh_root n)) (start_of n Data)) (sym (word_first n)) set_first))
        (λ (apart : block ≡ start_of n Data → ⊥). subst (IsSetOfRoots store (rooted_in (fresh_root n)) block) (sym (word_other n block apart)) (set_other block apart))
        (cases_eq block (start_of n Data)));
  }

  -- ---- free blocks

  free_from : (a k : ℕ) → start_of n Data < a → count_by (λ block. not (is_reached store (rooted_in (fresh_root n)) block)) (range_with_len a k) ≡ k
  free_from a zero after = refl
  free_from a (suc k) after =
      let here : not (is_reached store (rooted_in (fresh_root n)) a) ≡ true = ap not (reached a ∙ ne_eqb (start_of n Data) a (λ same. absurd (omega (arith, after, same)))) in
      omega (
        arith,
        sum_by-cons (λ block. cond (not (is_reached store (rooted_in (fresh_root n)) block)) 1 0) a (range_with_len (a + 1) k),
        ap {B = ℕ} (λ (b : Bool). cond b 1 0) here,
        free_from (a + 1) k (omega (arith, after)),
      )

  pub free_is : free_blocks n store (fresh_root n) ≡ n - start_of n Data - 1
  free_is =
      let more : n - start_of n Data ≡ suc (n - start_of n Data - 1) = omega (arith, room_for_data n room.size) in
      let taken : not (is_reached store (rooted_in (fresh_root n)) (start_of n Data)) ≡ false = ap not (reached (start_of n Data) ∙ eq-eqb (start_of n Data) (start_of n Data) refl) in
      ap (λ (k : ℕ). count_by (λ block. not (is_reached store (rooted_in (fresh_root n)) block)) (range_with_len (start_of n Data) k)) more
      ∙ omega (
        arith,
        sum_by-cons (λ block. cond (not (is_reached store (rooted_in (fresh_root n)) block)) 1 0) (start_of n Data) (range_with_len (start_of n Data + 1) (n - start_of n Data - 1)),
        ap {B = ℕ} (λ (b : Bool). cond b 1 0) taken,
        free_from (start_of n Data + 1) (n - start_of n Data - 1) (omega arith),
      )

  -- ---- the log

  newest : IsNewest c A (fresh_root n)
  newest = record { is_open = fresh.is_open; body = fresh.root; other = inl fresh.prepared.other }

  replays : (epoch : ℕ) → Replays c (base_of n epoch) epoch []
  replays epoch =
      let here : base_of n epoch ≡ base_of n epoch + 0 = omega arith in
      (0, record { leads = refl; stops = inr (inl (subst (IsClosed c) here (fresh.prepared.log epoch))) })

  abbrev tree : Tree
  tree = image store (inode_file n)

  none_left : nameless_in tree ≡ 0
  none_left = ap nameless_in (image_is n store fresh.prepared.inodes) ∙ none_nameless

  replayed : (epoch : ℕ) → AreReplayed c limits_written tree n epoch [] tree
  unfolding apply_all
  replayed epoch = record { spelled = tt; records = replays epoch; applied = refl }

  fits : Fits limits_written [] tree (free_blocks n store (fresh_root n))
  unfolding charges_from
  fits = omega (arith, none_left)

  log : HasSoundLog n c (fresh_root n) (free_blocks n store (fresh_root n))
  log = record {
    older = [];
    newer = [];
    middle = tree;
    tree = tree;
    has_older = replayed 1;
    has_newer = replayed 2;
    none_later = λ epoch. inl (fresh.prepared.log epoch);
    fits = fits;
    age = λ recovers. record { generation = omega arith; epoch = omega arith };
  }

  formatted : IsFormatted sectors c n
  formatted = record { size = room.size; spelled = fresh.prepared.superblock; room = room.room }

  pub sound_disk : IsSoundDisk sectors c n A (fresh_root n)
  sound_disk = record { formatted = formatted; newest = newest; roots = sound_root; log = log }

  -- ---- the world

  stands : StandsFor store (fresh_root n) [] new_world
  unfolding apply_all
  stands = record {
    tree = tree;
    applied = refl;
    settles = ap (λ (t : Tree). record new_world { live = t }) (sym (ap settled (image_is n store fresh.prepared.inodes) ∙ settled_new));
  }

  pub opens_new : Opens n c new_world
  opens_new = record {
    slot = A;
    root = fresh_root n;
    older = [];
    newer = [];
    older_spelled = tt;
    newer_spelled = tt;
    shown = record { newest = newest; has_older = replays 1; has_newer = replays 2 };
    stands = stands;
  }

  -- it is an image of the new world, as a mount takes it
  pub is_image : AreSectors c → length c ≡ sectors → IsImage c new_world
  unfolding opens_new
  is_image whole count = record {
    blocks = n;
    disk = record { size = room.size; whole = whole; long = subst (λ (m : ℕ). 8 * n ≤ m) (sym count) room.room };
    spelled = fresh.prepared.superblock;
    opens = opens_new;
    words = fresh_words n;
    map = fresh.prepared.map;
    sound = record {
      roots = sound_root.roots;
      map = λ block within. subst (IsSetOfRoots store (rooted_in (fresh_root n)) block) (map_word-spelled n c A (fresh_words n) fresh.prepared.map block) (sound_root.map block within);
    };
    none_later = λ epoch. inl (fresh.prepared.log epoch);
    fits = fits;
    age = λ recovers. record { generation = omega arith; epoch = omega arith };
  }
