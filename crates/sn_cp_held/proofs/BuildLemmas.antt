-- What a build gives is what a point needs.
use Rattle.std.proofs.Common.{◌≡◌, ◌≢◌, ◌⊎◌, ◌↔◌, inl, inr, ⊎_elim, ℕ, zero, suc, ◌*◌, ◌<◌, List, [], ◌∷◌, length, map, flat_map, slice_index, Contains, All, refl, sym, ap, subst, ◌∙◌, arith}
use Rattle.std.specs.Int.{bit_at}
use Rattle.std.specs.List.{AllByRecursion}
use Rattle.std.specs.List.Sorted.{IsStrictlyIncreasing}
use Rattle.std.proofs.lemmas.List.Elements.{Contains-append_cases, Contains-append_left, Contains-append_right}
use Rattle.std.proofs.lemmas.Nat.Bits.{bit_at-zero}
use Rattle.sn_alloc.specs.Taking.{IsFreeData}
use Rattle.sn_layout.specs.declared.geometry.Area.TheVariants.{Data}
use Rattle.sn_layout.specs.declared.root.RootBody.{RootBody}
use Rattle.sn_layout.specs.declared.snapshot.Snapshot.{Snapshot}
use Rattle.sn_layout.specs.declared.tree.BlockTree.{BlockTree}
use Rattle.sn_layout.specs.Geometry.{IsIn, map_blocks, start_of}
use Rattle.sn_layout.specs.RootBody.{IsRootBody}
use Rattle.sn_limits.specs.declared.limits.Limits.{Limits}
use Rattle.sn_limits.specs.Versions.{limits_written}
use Rattle.sn_limits.proofs.VersionLemmas.{written_allows}
use Rattle.sn_model.specs.declared.outcome.AskedPoint.{AskedPoint}
use Rattle.sn_image.specs.Image.{image}
use Rattle.sn_image.specs.Reach.{reach}
use Rattle.sn_image.specs.Sound.{IsSound}
use Rattle.sn_image.proofs.AllowedLemmas.{sound_stays}
use Rattle.sn_image.proofs.FootprintLemmas.{roots_depend}
use Rattle.sn_ondisk.specs.TreeLaws.{SameIn}
use Rattle.sn_ondisk.specs.Trees.{Store}
use Rattle.sn_opening.specs.Points.{HoldsAll, IsBuilt, Written, numbers_written}
use Rattle.sn_opening.specs.Worlds.{all_reach, frozen_of}
use Rattle.sn_overlay.specs.Layers.{Layer, through}
use Rattle.sn_sound.specs.Maps.{IsReachedBy, IsSoundRoot, Rooted, frozen_root, rooted_in}
use Rattle.sn_sound.proofs.ReachLemmas.{sound_depends}
use Rattle.sn_sound.proofs.StandingLemmas.{first_among, more_among}
use Rattle.sn_tree.specs.declared.new_block.NewBlock.{NewBlock}
use Rattle.sn_tree.specs.Drafts.{numbers_of}
use Rattle.sn_tree.specs.Plans.{Holds}
use Rattle.sn_cp_build.specs.Building.{IsFrozen}
use Rattle.sn_cp_build.specs.Edits.{base_bit}
use Rattle.sn_cp_build.specs.declared.building.Built.{Built}
use Rattle.sn_cp.specs.Points.{written_by}
use Rattle.sn_cp_held.specs.Builds.{IsOfBuild, plan_of}
use Rattle.sn_cp_held.specs.Snapshots.{edit_for, trees_built}
use Rattle.sn_cp_held.proofs.EditLemmas.{Becomes, BitIsMade, BitStays, begins_among, catalogue_of, each_bit, first_or_more, frozen_follow, live_among, one_root, rises_above}

-- ---- new blocks as what is written

pub numbers_same : (xs : List NewBlock) → numbers_written (map written_by xs) ≡ numbers_of xs
numbers_same [] = refl
numbers_same (x ∷ xs) = ap (λ (rest : List ℕ). x.number ∷ rest) (numbers_same xs)

holds_same : (r : Store) (xs : List NewBlock) → HoldsAll r (map written_by xs) → Holds r xs
holds_same r [] h k d within = absurd (omega (arith, within))
holds_same r (x ∷ xs) h zero d within = h.0
holds_same r (x ∷ xs) h (suc k) d within = holds_same r xs h.1 k d (omega (arith, within))

module _ (n : ℕ) (words : List ℕ) (count : length words ≡ n) where
  abbrev IsFree : ℕ → Type 0
  IsFree = IsFreeData words (start_of n Data)

  rest_free : (x : NewBlock) (xs : List NewBlock) → All IsFree (numbers_of (x ∷ xs)) → All IsFree (numbers_of xs)
  rest_free x xs all k d within = all (suc k) d (omega (arith, within))

  placed : (block : ℕ) → IsFree block → IsIn n Data block
  placed block free = record { from = free.in_data_area; below = omega (arith, free.within, count) }

  pub place_all : (xs : List NewBlock) → All IsFree (numbers_of xs) → AllByRecursion (λ (b : Written). IsIn n Data b.0) (map written_by xs)
  place_all [] all = tt
  place_all (x ∷ xs) all = (placed x.number (all 0 0 (omega arith)), place_all xs (rest_free x xs all))

  free_of : (xs : List NewBlock) → All IsFree (numbers_of xs) → (b : Written) → Contains (map written_by xs) b → IsFree b.0
  free_of [] all b (k, within, is) = absurd (omega (arith, within))
  free_of (x ∷ xs) all b (zero, within, is) = subst (λ (w : Written). IsFree w.0) is (all 0 0 (omega arith))
  free_of (x ∷ xs) all b (suc k, within, is) = free_of xs (rest_free x xs all) b (k, omega (arith, within), is)

-- ---- what roots reach

abbrev pub frozen_reach : Store → List Snapshot → List ℕ
frozen_reach s snapshots = flat_map (λ (snapshot : Snapshot). reach s snapshot.tree) snapshots

-- the snapshot whose tree reaches a block
record OfSnapshot (s : Store) (snapshots : List Snapshot) (block : ℕ) : Type 0 where
  snapshot : Snapshot
  among : Contains (map frozen_root snapshots) (frozen_root snapshot)
  reached : Contains (reach s snapshot.tree) block

of_snapshot : (s : Store) (snapshots : List Snapshot) (block : ℕ) → Contains (frozen_reach s snapshots) block → OfSnapshot s snapshots block
of_snapshot s [] block (k, within, is) = absurd (omega (arith, within))
of_snapshot s (x ∷ xs) block among = ⊎_elim
    (λ here. record { snapshot = x; among = first_among (frozen_root x) (map frozen_root xs); reached = here })
    (λ more. let of = of_snapshot s xs block more in record { snapshot = of.snapshot; among = more_among (frozen_root x) (map frozen_root xs) (frozen_root of.snapshot) of.among; reached = of.reached })
    (Contains-append_cases (reach s x.tree) (frozen_reach s xs) block among)

reached_by : (s : Store) (root : RootBody) (block : ℕ) → Contains (all_reach s root) block → (k : ℕ) × IsReachedBy s (rooted_in root) block k
reached_by s root block among =
    let live : Rooted = record { bit = 0; inodes = root.inode_file } in
    ⊎_elim
    (λ here. (0, record { inodes = root.inode_file; among = first_among live (map frozen_root root.snapshots); reached = here }))
    (λ more. let of = of_snapshot s root.snapshots block more in (of.snapshot.bit, record { inodes = of.snapshot.tree; among = more_among live (map frozen_root root.snapshots) (frozen_root of.snapshot) of.among; reached = of.reached }))
    (Contains-append_cases (reach s root.inode_file) (frozen_reach s root.snapshots) block among)

-- no root reaches a block whose word is 0
pub free_apart : (n : ℕ) (s : Store) (root : RootBody) (words : List ℕ) (block : ℕ) → IsSoundRoot n s root (slice_index words) → length words ≡ n → block < length words → slice_index words block ≡ 0 → Contains (all_reach s root) block → ⊥
free_apart n s root words block sound count within free among =
    let by = reached_by s root block among in
    let one = ((sound.map block (omega (arith, within, count))).bits by.0).1 by.1 in
    omega (arith, one, ap (λ (w : ℕ). bit_at w by.0) free, bit_at-zero by.0)

-- a snapshot's root is among those of all
pub frozen_has : (s : Store) (snapshots : List Snapshot) (k : Rooted) → Contains (map frozen_root snapshots) k → (block : ℕ) → Contains (reach s k.inodes) block → Contains (frozen_reach s snapshots) block
frozen_has s [] k (i, within, is) block reached = absurd (omega (arith, within))
frozen_has s (x ∷ xs) k among block reached = ⊎_elim
    (λ (first : k ≡ frozen_root x). Contains-append_left (reach s x.tree) (frozen_reach s xs) block (subst (λ (y : Rooted). Contains (reach s y.inodes) block) first reached))
    (λ more. Contains-append_right (reach s x.tree) (frozen_reach s xs) block (frozen_has s xs k more block reached))
    (first_or_more (frozen_root x) (map frozen_root xs) k among)

frozen_only : (root : RootBody) (k : ℕ) (inodes : BlockTree) → k ≢ 0 → Contains (rooted_in root) (record { bit = k; inodes = inodes }) → Contains (map frozen_root root.snapshots) (record { bit = k; inodes = inodes })
frozen_only root k inodes other among = ⊎_elim
    (λ (live : record { bit = k; inodes = inodes } ≡ record { bit = 0; inodes = root.inode_file }). absurd (other (ap (λ (y : Rooted). y.bit) live)))
    (λ more. more)
    (first_or_more (record { bit = 0; inodes = root.inode_file }) (map frozen_root root.snapshots) (record { bit = k; inodes = inodes }) among)

-- and what a root reaches is reached
pub reached_among : (s : Store) (root : RootBody) (block k : ℕ) → IsReachedBy s (rooted_in root) block k → Contains (all_reach s root) block
reached_among s root block k by =
    let live : Rooted = record { bit = 0; inodes = root.inode_file } in
    ⊎_elim
    (λ (here : record { bit = k; inodes = by.inodes } ≡ live). Contains-append_left (reach s root.inode_file) (frozen_reach s root.snapshots) block (subst (λ (y : Rooted). Contains (reach s y.inodes) block) here by.reached))
    (λ more. Contains-append_right (reach s root.inode_file) (frozen_reach s root.snapshots) block (frozen_has s root.snapshots (record { bit = k; inodes = by.inodes }) more block by.reached))
    (first_or_more live (map frozen_root root.snapshots) (record { bit = k; inodes = by.inodes }) by.among)

-- what its bit names is reached by a root
pub rooted_reached : (s : Store) (root : RootBody) → IsRootBody root → (k : Rooted) → Contains (rooted_in root) k → (block : ℕ) → IsReachedBy s (rooted_in root) block k.bit → Contains (reach s k.inodes) block
rooted_reached s root body k among block by = subst (λ (y : Rooted). Contains (reach s y.inodes) block) (one_root root body (record { bit = k.bit; inodes = by.inodes }) k by.among among refl) by.reached

live_reached : (s : Store) (root : RootBody) → IsRootBody root → (block : ℕ) → IsReachedBy s (rooted_in root) block 0 → Contains (reach s root.inode_file) block
live_reached s root body block by = rooted_reached s root body (record { bit = 0; inodes = root.inode_file }) (live_among root root.inode_file refl) block by

-- ---- a build

module _ (n : ℕ) (s : Store) (root : RootBody) (words : List ℕ) (file : BlockTree) (layer : Layer) (asked : AskedPoint) (bit : ℕ) (built : Built) (next : RootBody) (of : IsOfBuild n s root words file layer asked bit built next) where
  -- the live root that follows
  abbrev live : Rooted
  live = record { bit = 0; inodes = next.inode_file }

  -- what it began from is of one of the root's
  file_reach : (block : ℕ) → Contains (reach s file) block → Contains (all_reach s root) block
  file_reach block among = reached_among s root block (base_bit (edit_for asked bit)) (record { inodes = file; among = begins_among asked bit root file of.begins; reached = among })

  not_live : (k : Rooted) → Contains (map frozen_root next.snapshots) k → k.bit ≢ 0
  not_live k among is = let above = rises_above 0 next.snapshots (catalogue_of of.body).rising k among in omega (arith, above, is)

  becomes : (k : ℕ) → k ≢ 0 → Becomes words built.map root next k
  becomes = each_bit asked bit words built.map root next of.root_body of.snapshots of.well.snapshots

  -- each root that follows has the new inode file, or is that of a snapshot from before
  of_next : (k : Rooted) → Contains (rooted_in next) k → (k.inodes ≡ next.inode_file) ⊎ Contains (map frozen_root root.snapshots) k
  of_next k among = ⊎_elim
      (λ (first : k ≡ live). inl (ap (λ (y : Rooted). y.inodes) first))
      (λ more. told more (becomes k.bit (not_live k more)))
      (first_or_more live (map frozen_root next.snapshots) k among)
    where
      told : Contains (map frozen_root next.snapshots) k → Becomes words built.map root next k.bit → (k.inodes ≡ next.inode_file) ⊎ Contains (map frozen_root root.snapshots) k
      told more (inl stays) = inr ((stays.roots k.inodes).0 more)
      told more (inr (inl made)) = inl (made.alone k.inodes more)
      told more (inr (inr goes)) = absurd (goes.none k.inodes more)

  -- what is sound under the root's limits is so under those that are written
  written_sound : (r : Store) (inodes : BlockTree) → IsSound root.limits n r inodes → IsSound next.limits n r inodes
  written_sound r inodes is =
      subst (λ (l : Limits). IsSound l n r inodes) (sym of.limits)
      (sound_stays root.limits limits_written (written_allows root.limits.version root.limits of.root_body.version) n r inodes is)

  module _ (r : Store) (same : SameIn (all_reach s root) s r) (holds : HoldsAll r (plan_of built next).blocks) where
    frozen : IsFrozen n root.limits s file layer built r
    frozen = of.builds of.ground of.tells r (λ block among. same block (file_reach block among)) (holds_same r built.blocks.items holds)

    tree_is : image r next.inode_file ≡ through layer (image s file)
    tree_is = ap (image r) of.inode_file ∙ frozen.tree

    live_sound : IsSound root.limits n r next.inode_file
    live_sound = subst (IsSound root.limits n r) (sym of.inode_file) frozen.sound

    -- bit 0 says what the new inode file reaches
    live_told : (block : ℕ) → (bit_at (slice_index built.map block) 0 ≡ 1) ↔ Contains (reach r next.inode_file) block
    live_told block = (
      λ is. subst (λ (f : BlockTree). Contains (reach r f) block) (sym of.inode_file) ((frozen.bits block).0 is),
      λ reached. (frozen.bits block).1 (subst (λ (f : BlockTree). Contains (reach r f) block) of.inode_file reached),
    )

    -- the tree of a snapshot from before stays
    old_alike : (k : Rooted) → Contains (map frozen_root root.snapshots) k → SameIn (reach s k.inodes) s r
    old_alike k among block reached = same block (Contains-append_right (reach s root.inode_file) (frozen_reach s root.snapshots) block (frozen_has s root.snapshots k among block reached))

    old_reaches : (k : Rooted) → Contains (map frozen_root root.snapshots) k → reach r k.inodes ≡ reach s k.inodes
    old_reaches k among = (roots_depend s r k.inodes (old_alike k among)).reach

    pub reaches : (block : ℕ) → Contains (all_reach r next) block → Contains (all_reach s root) block ⊎ Contains (numbers_written (plan_of built next).blocks) block
    reaches block among =
        let by = (reached_by r next block among).1 in
        let k : Rooted = record { bit = (reached_by r next block among).0; inodes = by.inodes } in
        ⊎_elim
        (λ (new : by.inodes ≡ next.inode_file). ⊎_elim
        (λ old. inl (file_reach block old))
        (λ added. inr (subst (λ (numbers : List ℕ). Contains numbers block) (sym (numbers_same built.blocks.items)) added))
        (frozen.within block (subst (λ (f : BlockTree). Contains (reach r f) block) (new ∙ of.inode_file) by.reached)))
        (λ old. inl (Contains-append_right (reach s root.inode_file) (frozen_reach s root.snapshots) block
        (frozen_has s root.snapshots k old block (subst (λ (blocks : List ℕ). Contains blocks block) (old_reaches k old) by.reached))))
        (of_next k by.among)

    sound_of : (k : Rooted) → Contains (rooted_in next) k → IsSound next.limits n r k.inodes
    sound_of k among = written_sound r k.inodes (⊎_elim
        (λ (new : k.inodes ≡ next.inode_file). subst (IsSound root.limits n r) (sym new) live_sound)
        (λ old. sound_depends s r k.inodes (old_alike k old) root.limits n (of.sound.roots k (more_among (record { bit = 0; inodes = root.inode_file }) (map frozen_root root.snapshots) k old)))
        (of_next k among))

    -- ---- its map

    abbrev IsTold : ℕ → ℕ → Type 0
    IsTold block k = (bit_at (slice_index built.map block) k ≡ 1) ↔ IsReachedBy r (rooted_in next) block k

    live_bit : (block : ℕ) → IsTold block 0
    live_bit block = (
      λ is. record { inodes = next.inode_file; among = first_among live (map frozen_root next.snapshots); reached = (live_told block).0 is },
      λ by. (live_told block).1 (live_reached r next of.body block by),
    )

    stays_told : (block k : ℕ) → block < 1024 * map_blocks n → k ≢ 0 → BitStays words built.map root next k → IsTold block k
    stays_told block k within other stays = (
      λ is.
          let by = ((of.sound.map block within).bits k).0 (sym (stays.told block) ∙ is) in
          let old : Rooted = record { bit = k; inodes = by.inodes } in
          let among = frozen_only root k by.inodes other by.among in
          record {
            inodes = by.inodes;
            among = more_among live (map frozen_root next.snapshots) old ((stays.roots by.inodes).1 among);
            reached = subst (λ (blocks : List ℕ). Contains blocks block) (sym (old_reaches old among)) by.reached;
          },
      λ by.
          let old : Rooted = record { bit = k; inodes = by.inodes } in
          let among = (stays.roots by.inodes).0 (frozen_only next k by.inodes other by.among) in
          stays.told block ∙ ((of.sound.map block within).bits k).1 (record {
            inodes = by.inodes;
            among = more_among (record { bit = 0; inodes = root.inode_file }) (map frozen_root root.snapshots) old among;
            reached = subst (λ (blocks : List ℕ). Contains blocks block) (old_reaches old among) by.reached;
          }),
    )

    made_told : (block k : ℕ) → k ≢ 0 → BitIsMade built.map next k → IsTold block k
    made_told block k other made = (
      λ is. record {
        inodes = next.inode_file;
        among = more_among live (map frozen_root next.snapshots) (record { bit = k; inodes = next.inode_file }) made.among;
        reached = (live_told block).0 (sym (made.told block) ∙ is);
      },
      λ by. made.told block ∙ (live_told block).1 (subst (λ (f : BlockTree). Contains (reach r f) block) (made.alone by.inodes (frozen_only next k by.inodes other by.among)) by.reached),
    )

    bit_told : (block k : ℕ) → block < 1024 * map_blocks n → k ≢ 0 → Becomes words built.map root next k → IsTold block k
    bit_told block k within other (inl stays) = stays_told block k within other stays
    bit_told block k within other (inr (inl made)) = made_told block k other made
    bit_told block k within other (inr (inr goes)) = (
      λ is. absurd (omega (arith, is, goes.told block)),
      λ by. absurd (goes.none by.inodes (frozen_only next k by.inodes other by.among)),
    )

    pub builds_are_sound : IsSoundRoot n r next (slice_index built.map)
    builds_are_sound = record {
      roots = sound_of;
      map = λ block within. record { fits = of.numbers block; bits = λ k. each block within k };
    }
      where
        each : (block : ℕ) → block < 1024 * map_blocks n → (k : ℕ) → (bit_at (slice_index built.map block) k ≡ 1) ↔ IsReachedBy r (rooted_in next) block k
        each block within zero = live_bit block
        each block within (suc k) = bit_told block (suc k) within (λ is. omega (arith, is)) (becomes (suc k) (λ is. omega (arith, is)))

  pub builds_are_built : IsBuilt n s root (trees_built asked (through layer (image s file)) (frozen_of s root.snapshots)) (plan_of built next)
  builds_are_built = record {
    fits = of.body;
    later = omega (arith, of.generation);
    place = place_all n words of.count built.blocks.items of.well.free;
    apart = λ b among reached. let free = free_of n words of.count built.blocks.items of.well.free b among in free_apart n s root words b.0 of.sound of.count free.within free.free reached;
    once = subst IsStrictlyIncreasing (sym (numbers_same built.blocks.items)) of.well.rise;
    whole = of.whole;
    tree = tree_is;
    frozen = λ r same holds. frozen_follow asked bit s r root next (through layer (image s file)) same of.snapshots (tree_is r same holds);
    sound = λ r same holds. written_sound r next.inode_file (live_sound r same holds);
    reach = reaches;
  }
