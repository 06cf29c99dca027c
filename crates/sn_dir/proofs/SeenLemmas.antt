-- Blocks that an index knows to lack a name.
use Rattle.std.proofs.Common.{◌≡◌, ◌≢◌, ℕ, zero, suc, ◌+◌, ◌-◌, ◌*◌, ◌/◌, ◌<◌, ◌≤◌, true, Bool, List, None, slice_index, IsTrue, refl, sym, subst, ◌∙◌, arith}
use Rattle.std.proofs.lemmas.Bool.{le-leb, or_right}
use Rattle.sn_device.specs.Disk.{Disk, reads}
use Rattle.sn_device.specs.declared.status.Status.{Status}
use Rattle.sn_layout.specs.Pointers.{levels_of}
use Rattle.sn_layout.specs.declared.tree.BlockTree.{BlockTree}
use Rattle.sn_layout_node.specs.Directory.{Link, number_of}
use Rattle.sn_ondisk.specs.Trees.{Store, store_of, entry, data_block}
use Rattle.sn_names.specs.Told.{IsSeen, LacksName}
use Rattle.sn_image.specs.Names.{names_in}
use Rattle.sn_tree_read.specs.Paths.{lies_on, path_lies_on}
use Rattle.sn_tree_read.proofs.PointerLemmas.{data_there}
use Rattle.sn_dir.specs.Blocks.{names_before, IsThere, CanRead}
use Rattle.sn_dir.proofs.BlockLemmas.{is_there, names_read, can_read}
use Rattle.sn_dir.proofs.NameLemmas.{number_more}
use Rattle.sn_dir.proofs.ReadingLemmas.{IsReading, at_start, reading_more}

pub lies_there : (sectors pointer : ℕ) → 8 * pointer + 8 ≤ sectors → lies_on sectors pointer ≡ true
lies_there sectors pointer lies = or_right _ _ (le-leb (8 * pointer + 8) sectors lies)

-- at most one block is on the way
path_seen : (sectors : ℕ) (s : Store) (pointers : List ℕ) (i n : ℕ) → n ≤ 1 → (n ≢ 0 → 8 * slice_index pointers (i / 1024) + 8 ≤ sectors) → path_lies_on sectors s n pointers i ≡ true
unfolding path_lies_on entry
path_seen sectors s pointers i zero most above = refl
path_seen sectors s pointers i (suc zero) most above = lies_there sectors (slice_index pointers (i / 1024)) (above (λ none. omega (arith, none)))
path_seen sectors s pointers i (suc (suc n)) most above = absurd (omega (arith, most))

module _ (sectors : ℕ) (s : Store) (tree : BlockTree) (i : ℕ) (P : List Link → Type 0) (seen : IsSeen sectors s tree i P) where
  seen_bytes : s seen.number ≡ data_block s tree i
  seen_bytes = data_there s tree i (levels_of tree.size) seen.number refl (sym seen.placed.place) seen.no_hole

  seen_there : IsThere sectors s tree i
  seen_there = is_there sectors s tree i (levels_of tree.size) seen.number refl (sym seen.placed.place)
      (path_seen sectors s tree.pointers i (levels_of tree.size) seen.level seen.placed.above) (lies_there sectors seen.number seen.placed.lies) seen.no_hole

  -- a block that is seen can be read
  pub seen_read : CanRead sectors s tree i
  seen_read = can_read sectors s tree i (s seen.number) seen_bytes seen.links seen_there seen.spelled

  -- what is known of its names is true of those that are read
  pub seen_names : P (names_in (data_block s tree i))
  seen_names = subst P (names_read (s seen.number) (data_block s tree i) seen.links seen_bytes seen.spelled) seen.true_of

module _ (tells : Bool) (tree : BlockTree) (name : List ℕ) (old new : Status) (before now : Disk) where
  -- the blocks before block i were read, and none of them has the name
  pub record IsLooking (i : ℕ) : Type 0 where
    pub reading : IsReading tells tree i old new before now
    pub none : IsTrue tells → number_of name (names_before (store_of (reads before)) tree i) ≡ None

  abbrev Lacks : ℕ → Type 0
  Lacks i = IsSeen new.sectors (store_of (reads now)) tree i (LacksName name)

  passed_one : (i : ℕ) → IsLooking i → (IsTrue tells → Lacks i) → IsLooking (i + 1)
  passed_one i looking lacks = record {
    reading = reading_more tells tree i old new before now looking.reading new now refl (λ told. refl) (λ told. seen_read new.sectors (store_of (reads now)) tree i (LacksName name) (lacks told));
    none = λ told.
        let here = seen_names new.sectors (store_of (reads now)) tree i (LacksName name) (lacks told) in
        number_more (store_of (reads before)) tree i name (looking.none told)
        ∙ at_start tells tree i old new before now looking.reading (λ (n : ℕ) (s : Store). number_of name (names_in (data_block s tree i)) ≡ None) told here;
  }

  passed_many : (d i : ℕ) → IsLooking i → (IsTrue tells → (j : ℕ) → i ≤ j → j < i + d → Lacks j) → IsLooking (i + d)
  passed_many zero i looking lack = let same : i ≡ i + 0 = omega arith in subst IsLooking same looking
  passed_many (suc d) i looking lack =
      let same : i + 1 + d ≡ i + suc d = omega arith in
      let next = passed_one i looking (λ told. lack told i (omega arith) (omega arith)) in
      subst IsLooking same (passed_many d (i + 1) next (λ told j from until. lack told j (omega (arith, from)) (omega (arith, until))))

  -- so may be said of blocks that are passed over
  pub passed : (i k : ℕ) → i ≤ k → IsLooking i → (IsTrue tells → (j : ℕ) → i ≤ j → j < k → Lacks j) → IsLooking k
  passed i k le looking lack =
      let same : i + (k - i) ≡ k = omega (arith, le) in
      subst IsLooking same (passed_many (k - i) i looking (λ told j from until. lack told j from (omega (arith, until, le))))
