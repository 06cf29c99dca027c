-- What a build of a mount's live tree gives is a point of it, and so is one of a snapshot that is brought back.
use Rattle.std.proofs.Common.{◌≡◌, inl, inr, ⊎_elim, ℕ, zero, suc, ◌+◌, ◌*◌, ◌^◌, ◌<◌, ◌≤◌, ◌↔◌, nat_le, Bool, true, false, List, [], ◌∷◌, length, slice_index, Contains, refl, sym, ap, subst, ◌∙◌, arith, leb-true, leb-false}
use Rattle.std.specs.Int.{bit_at}
use Rattle.std.proofs.lemmas.List.{get_or_past}
use Rattle.std.proofs.lemmas.Nat.Bits.{bit_at-zero}
use Rattle.sn_alloc.specs.Taking.{free_data}
use Rattle.sn_changed.specs.Changed.{HasChanged}
use Rattle.sn_changed.proofs.ChangedLemmas.{builds_fit}
use Rattle.sn_device.specs.Disk.{reads}
use Rattle.sn_device.specs.Sectors.{Contents}
use Rattle.sn_device.proofs.CrashLemmas.{Always-reads}
use Rattle.sn_image.specs.Image.{image}
use Rattle.sn_image.specs.Laws.{RootReadsAlike}
use Rattle.sn_image.specs.Reach.{reach}
use Rattle.sn_image.specs.Sound.{IsBlock, IsPlaced, IsSound}
use Rattle.sn_image.proofs.ByteLemmas.{data_whole}
use Rattle.sn_image.proofs.FootprintLemmas.{roots_depend}
use Rattle.sn_layout.specs.Bytes.{AreNumbers}
use Rattle.sn_layout.specs.declared.gate.Gate.{Gate}
use Rattle.sn_layout.specs.declared.geometry.Area.TheVariants.{Data}
use Rattle.sn_layout.specs.declared.geometry.Slot.{Slot}
use Rattle.sn_layout.specs.declared.root.RootBody.{RootBody}
use Rattle.sn_layout.specs.declared.tree.BlockTree.{BlockTree}
use Rattle.sn_layout.specs.Geometry.{other_slot, start_of}
use Rattle.sn_layout.specs.RootBody.{IsRootBody}
use Rattle.sn_limits.specs.declared.limits.Limits.{Limits}
use Rattle.sn_limits.specs.Versions.{limits_written}
use Rattle.sn_map.specs.Free.{is_free_word}
use Rattle.sn_model.specs.NameTree.{IsTree}
use Rattle.sn_model.specs.declared.outcome.AskedPoint.{AskedPoint}
use Rattle.sn_model.specs.declared.outcome.AskedPoint.TheVariants.{Unasked, Plain, Freezes, Thaws, Restores}
use Rattle.sn_model.specs.Tree.{Tree}
use Rattle.sn_model.specs.World.{Trees, World, trees_of}
use Rattle.sn_ondisk.specs.MapCopy.{HasMap}
use Rattle.sn_ondisk.specs.TreeLaws.{SameIn}
use Rattle.sn_ondisk.specs.Trees.{Store, store_of}
use Rattle.sn_opening.specs.Opens.{Shows}
use Rattle.sn_opening.specs.Points.{HoldsAll, IsBuilt}
use Rattle.sn_opening.specs.Worlds.{all_reach, frozen_of}
use Rattle.sn_overlay.specs.Layers.{through}
use Rattle.sn_model.specs.Settling.{nameless_in}
use Rattle.sn_overlay.specs.Needs.{need}
use Rattle.sn_overlay.specs.Seen.{LiesOver}
use Rattle.sn_held.specs.Rooms.{begun}
use Rattle.sn_root.specs.declared.following.PointKind.{PointKind}
use Rattle.sn_root.specs.declared.following.PointKind.TheVariants.{Ordinary}
use Rattle.sn_sound.specs.Charges.{charges_from}
use Rattle.sn_sound.specs.Maps.{IsSoundRoot, Rooted, free_blocks, rooted_in}
use Rattle.sn_sound.proofs.FreeLemmas.{free_counted, words_counted}
use Rattle.sn_sound.proofs.ReachLemmas.{sound_depends}
use Rattle.sn_held.specs.Held.{Held, Kept, Runs, RunsReady}
use Rattle.sn_held.specs.Room.{IsCharged}
use Rattle.sn_cp.specs.Steps.{IsWhole}
use Rattle.sn_cp_nodes.specs.Built.{IsGround}
use Rattle.sn_cp_build.specs.Bits.{TellsBit}
use Rattle.sn_cp_build.specs.Building.{Builds}
use Rattle.sn_cp_build.specs.Edits.{base_bit}
use Rattle.sn_cp_build.specs.declared.building.Built.{Built}
use Rattle.sn_cp_held.specs.Builds.{CanBeBuilt, CanBeBuiltOver, IsBuiltOf, IsOfBuild, plan_of, room_behind, work_for}
use Rattle.sn_cp_held.specs.Snapshots.{KeepsLive, edit_for, live_behind, trees_behind, trees_built}
use Rattle.sn_cp_held.specs.Wholes.{IsFollowing, IsOfLive, StandsKept, StandsOver, TakesNoMore}
use Rattle.sn_cp_held.proofs.BuildLemmas.{builds_are_built, builds_are_sound, reached_among, rooted_reached}
use Rattle.sn_cp_held.proofs.EditLemmas.{begins_among, built_behind, live_among}
use Rattle.sn_cp_held.proofs.LaidLemmas.{laid, laid_all, laid_same}
use Rattle.sn_cp_held.proofs.RoomLemmas.{builds_leave_room}

-- ---- words

numbers_within : (words : List ℕ) → AreNumbers 4 words → (k : ℕ) → slice_index words k < 2 ^ 32
numbers_within [] fits k = omega arith
numbers_within (w ∷ ws) fits zero = omega (arith, fits.0)
numbers_within (w ∷ ws) fits (suc k) = numbers_within ws fits.1 k

-- the bit of a root in a sound root's words says what it reaches
tells_reach : (n : ℕ) (s : Store) (root : RootBody) (words : List ℕ) → IsRootBody root → length words ≡ n → IsSoundRoot n s root (slice_index words) → (k : Rooted) → Contains (rooted_in root) k → TellsBit k.bit words (reach s k.inodes)
tells_reach n s root words body count sound k has block = told (nat_le n block) refl
  where
    placed : IsPlaced n s k.inodes
    placed = (sound.roots k has).placed

    told : (past : Bool) → nat_le n block ≡ past → (bit_at (slice_index words block) k.bit ≡ 1) ↔ Contains (reach s k.inodes) block
    told true e =
        let beyond = leb-true n block e in (
          λ set. absurd (omega (arith, set, ap (λ (w : ℕ). bit_at w k.bit) (get_or_past words block 0 (omega (arith, beyond, count))), bit_at-zero k.bit)),
          λ among. let lie = placed.within block among in absurd (omega (arith, beyond, lie.below)),
        )
    told false e =
        let inside = leb-false n block e in
        let bits = (sound.map block (omega (arith, inside))).bits k.bit in (
          λ set. rooted_reached s root body k has block (bits.0 set),
          λ among. bits.1 (record { inodes = k.inodes; among = has; reached = among }),
        )

-- ---- a root that is there, and an inode file of it with this bit

module _ (n : ℕ) (c : Contents) (world : World) (k : Kept) (file : BlockTree) (live : Tree) (first : ℕ) (has : Contains (rooted_in k.root) (record { bit = first; inodes = file })) (st : StandsOver n c world k file live) where
  abbrev s : Store
  s = st.store

  abbrev now : Store
  now = store_of c

  body : IsRootBody k.root
  body = st.shown.shown.newest.body.fits

  count : length k.words ≡ n
  count = st.map.count

  file_same : SameIn (reach s file) s now
  file_same block among = st.shown.same block (reached_among s k.root block first (record { inodes = file; among = has; reached = among }))

  depends : RootReadsAlike s now file
  depends = roots_depend s now file file_same

  sound : IsSound k.root.limits n s file
  sound = st.sound.roots (record { bit = first; inodes = file }) has

  whole_blocks : (block : ℕ) → Contains (reach s file) block → IsBlock (now block)
  whole_blocks block among = data_whole c n block st.disk.whole st.disk.long (sound.placed.within block among)

  is_tree : (tree : Tree) → tree ≡ live → IsTree k.root.limits tree
  is_tree tree is = subst (IsTree k.root.limits) (sym is) st.tree

  ground : IsGround k.root.limits n s file k.changed
  ground = record {
    version = body.version;
    sound = sound;
    whole = λ block among. subst IsBlock (file_same block among) (whole_blocks block among);
    lies = st.changed.lies;
    tree = is_tree (through k.changed (image s file)) st.changed.shows;
  }

  ground_now : IsGround k.root.limits n now file k.changed
  ground_now = record {
    version = body.version;
    sound = sound_depends s now file file_same k.root.limits n sound;
    whole = λ block among. whole_blocks block (subst (λ (blocks : List ℕ). Contains blocks block) depends.reach among);
    lies = subst (LiesOver k.changed) (sym depends.image) st.changed.lies;
    tree = is_tree (through k.changed (image now file)) (ap (through k.changed) depends.image ∙ st.changed.shows);
  }

  tells : TellsBit first k.words (reach s file)
  tells = tells_reach n s k.root k.words body count st.sound (record { bit = first; inodes = file }) has

  data_within : start_of n Data ≤ n
  data_within = let least = st.disk.size.least in omega (arith, least)

  is_free : free_data k.words (start_of n Data) ≡ free_blocks n s k.root
  is_free = words_counted is_free_word k.words (start_of n Data) n count data_within ∙ sym (free_counted n s k.root (slice_index k.words) st.sound)

  -- what changed fits, with a charge for each live file without names
  fitting : need k.root.limits k.changed + k.root.limits.inode_charge * nameless_in live ≤ free_blocks n s k.root
  fitting = builds_fit k.root.limits k.changed (image s file) live st.charged (free_blocks n s k.root) st.changed st.fits

  pub over_can_be_built : CanBeBuiltOver n now k file first
  over_can_be_built = record {
    ground = ground_now;
    tells = subst (TellsBit first k.words) (sym depends.reach) tells;
    fits = omega (arith, fitting, is_free);
  }

-- over the root's own inode file
pub kept_can_be_built : (n : ℕ) (c : Contents) (world : World) (k : Kept) → StandsKept n c world k → CanBeBuilt n (store_of c) k
kept_can_be_built n c world k st = over_can_be_built n c world k k.root.inode_file world.live 0 (live_among k.root k.root.inode_file refl) st

-- ---- what is built over one that a point begins from, for the live tree after it

module _ (n : ℕ) (c : Contents) (world : World) (k : Kept) (file : BlockTree) (live : Tree) (st : StandsOver n c world k file live) (kind : PointKind) (asked : AskedPoint) (bit : ℕ) (built : Built) (next : RootBody) (x : IsBuiltOf n c kind k file asked bit built next) (leads : live ≡ live_behind asked (trees_of world)) where
  abbrev first : ℕ
  first = base_bit (edit_for asked bit)

  abbrev before : Store
  before = st.store

  has : Contains (rooted_in k.root) (record { bit = base_bit (edit_for asked bit); inodes = file })
  has = begins_among asked bit k.root file x.begins

  alike : RootReadsAlike before (store_of c) file
  alike = depends n c world k file live first has st

  -- what is built over the blocks that are read is built over those that the root was made of
  builds_here : Builds n k.root.limits (store_of c) file first k.words k.changed built → Builds n k.root.limits before file first k.words k.changed built
  builds_here builds on tell u same holds =
      let frozen = builds (ground_now n c world k file live first has st) (subst (TellsBit first k.words) (sym alike.reach) tell) u
      (λ block among. let here = subst (λ (blocks : List ℕ). Contains blocks block) alike.reach among in same block here ∙ sym (file_same n c world k file live first has st block here)) holds in
      record {
        tree = frozen.tree ∙ ap (through k.changed) alike.image;
        sound = frozen.sound;
        bits = frozen.bits;
        within = λ block among. ⊎_elim (λ old. inl (subst (λ (blocks : List ℕ). Contains blocks block) alike.reach old)) (λ new. inr new) (frozen.within block among);
      }

  pub of_build : IsOfBuild n before k.root k.words file k.changed asked bit built next
  of_build = record {
    root_body = body n c world k file live first has st;
    sound = st.sound;
    count = count n c world k file live first has st;
    begins = x.begins;
    tells = tells n c world k file live first has st;
    ground = ground n c world k file live first has st;
    well = x.well;
    builds = builds_here x.builds;
    numbers = numbers_within built.map x.numbers;
    whole = x.whole;
    body = x.body;
    limits = ap (λ (b : RootBody). b.limits) x.is;
    generation = ap (λ (b : RootBody). b.generation) x.is;
    inode_file = ap (λ (b : RootBody). b.inode_file) x.is;
    snapshots = x.snapshots;
  }

  -- the trees that what changed and the snapshots denote
  trees_are : trees_built asked (through k.changed (image before file)) (frozen_of before k.root.snapshots) ≡ trees_behind asked (trees_of world)
  trees_are = (λ i. trees_built asked ((st.changed.shows ∙ leads) i) ((sym st.frozen) i)) ∙ built_behind asked (trees_of world)

  pub made : IsBuilt n before k.root (trees_behind asked (trees_of world)) (plan_of built next)
  made = subst (λ (trees : Trees). IsBuilt n before k.root trees (plan_of built next)) trees_are (builds_are_built n before k.root k.words file k.changed asked bit built next of_build)

  pub new_count : length built.map ≡ n
  new_count = x.well.as_many ∙ count n c world k file live first has st

  within_disk : start_of n Data ≤ n
  within_disk = data_within n c world k file live first has st

  module _ (t : Store) (same : SameIn (all_reach before k.root) before t) (holds : HoldsAll t (plan_of built next).blocks) where
    new_free : free_data built.map (start_of n Data) ≡ free_blocks n t next
    new_free =
        words_counted is_free_word built.map (start_of n Data) n new_count within_disk
        ∙ sym (free_counted n t next (slice_index built.map) (builds_are_sound n before k.root k.words file k.changed asked bit built next of_build t same holds))

    pub new_tree : image t next.inode_file ≡ live
    new_tree = made.tree t same holds ∙ sym leads

    -- what is kept of the room is charged of it, where files without names are charged no more under the written limits
    pub charged : limits_written.inode_charge * nameless_in live ≤ k.root.limits.inode_charge * nameless_in live → IsCharged (room_behind n built) n t next [] live
    unfolding charges_from
    charged no_more = record {
      free = new_free;
      charged = refl;
      parked = omega (arith, ap nameless_in new_tree);
      fits = omega (
        arith,
        ap nameless_in new_tree,
        no_more,
        fitting n c world k file live first has st,
        new_free,
        builds_leave_room n before k.root k.words file k.changed asked bit built next of_build t same holds,
        x.well.few,
      );
    }

  -- its blocks are no more than what changed needs
  pub takes_few : free_blocks n before k.root ≤ free_data built.map (start_of n Data) + need k.root.limits k.changed
  takes_few =
      let plan = plan_of built next in
      let trees = trees_behind asked (trees_of world) in
      let t = laid plan.blocks before in
      let same = laid_same n before k.root trees plan made in
      let holds = laid_all n before k.root trees plan made in
      omega (arith, new_free t same holds, builds_leave_room n before k.root k.words file k.changed asked bit built next of_build t same holds, x.well.few)

  pub sound_next : (t : Store) → SameIn (all_reach before k.root) before t → HoldsAll t (plan_of built next).blocks → IsSoundRoot n t next (slice_index built.map)
  sound_next = builds_are_sound n before k.root k.words file k.changed asked bit built next of_build

  pub whole_work : (slot : Slot) (gate : Gate) → IsWhole (record { blocks = n; slot = slot; gate = gate; plan = plan_of built next })
  whole_work slot gate = record {
    size = st.disk.size;
    place = made.place;
    once = made.once;
    words = new_count;
    fits = x.numbers;
    next = x.body;
  }

-- ---- a mount that runs, with its root and what is to be built over it

module _ (h : Held) (world : World) (r : Runs h world) (k : Kept) (slot_is : k.slot ≡ r.slot) (root_is : k.root ≡ r.root) (words_is : k.words ≡ r.words) where
  -- its root has the written limits
  pub limits_kept : k.root.limits ≡ limits_written
  limits_kept = ap (λ (b : RootBody). b.limits) root_is ∙ r.limits

  module _ (file : BlockTree) (live : Tree) (charges : ℕ) (changed : HasChanged limits_written k.changed (image r.store file) live charges) (fits : charges + limits_written.inode_charge * nameless_in (image r.store file) ≤ h.room.free) (tree : IsTree limits_written live) where
    abbrev pub stands_over : StandsOver h.at.blocks (reads h.disk) world k file live
    stands_over = record {
      store = r.store;
      older = r.older;
      newer = r.newer;
      disk = r.stands.disk;
      shown = subst (λ (slot : Slot). Shows h.at.blocks r.store slot k.root r.older r.newer (reads h.disk)) (sym slot_is)
          (subst (λ (b : RootBody). Shows h.at.blocks r.store r.slot b r.older r.newer (reads h.disk)) (sym root_is)
          (Always-reads h.disk (Shows h.at.blocks r.store r.slot r.root r.older r.newer) r.stands.disk.whole r.stands.shows));
      map = subst (λ (slot : Slot). HasMap h.at.blocks (reads h.disk) slot k.words) (sym slot_is)
          (subst (λ (ws : List ℕ). HasMap h.at.blocks (reads h.disk) r.slot ws) (sym words_is)
          (Always-reads h.disk (λ c. HasMap h.at.blocks c r.slot r.words) r.stands.disk.whole r.stands.map));
      sound = subst (λ (b : RootBody). IsSoundRoot h.at.blocks r.store b (slice_index k.words)) (sym root_is)
          (subst (λ (ws : List ℕ). IsSoundRoot h.at.blocks r.store r.root (slice_index ws)) (sym words_is) r.stands.sound);
      frozen = subst (λ (b : RootBody). world.frozen ≡ frozen_of r.store b.snapshots) (sym root_is) r.frozen;
      charged = charges;
      changed = subst (λ (l : Limits). HasChanged l k.changed (image r.store file) live charges) (sym limits_kept) changed;
      fits = subst (λ (l : Limits). charges + l.inode_charge * nameless_in (image r.store file) ≤ free_blocks h.at.blocks r.store k.root) (sym limits_kept)
          (subst (λ (b : RootBody). charges + limits_written.inode_charge * nameless_in (image r.store file) ≤ free_blocks h.at.blocks r.store b) (sym root_is)
          (omega (arith, fits, r.charged.free)));
      tree = subst (λ (l : Limits). IsTree l live) (sym limits_kept) tree;
    }

    pub ready_can_be_built : (first : ℕ) → Contains (rooted_in k.root) (record { bit = first; inodes = file }) → CanBeBuiltOver h.at.blocks (store_of (reads h.disk)) k file first
    ready_can_be_built first has = over_can_be_built h.at.blocks (reads h.disk) world k file live first has stands_over

    module _ (gate : Gate) (asked : AskedPoint) (bit : ℕ) (built : Built) (next : RootBody) (x : IsBuiltOf h.at.blocks (reads h.disk) Ordinary k file asked bit built next) (leads : live ≡ live_behind asked (trees_of world))
        (pays : need limits_written k.changed ≤ h.room.charged + limits_written.inode_charge * h.room.dropped) where
      here : (t : Store) → SameIn (all_reach r.store r.root) r.store t → SameIn (all_reach r.store k.root) r.store t
      here t same = subst (λ (b : RootBody). SameIn (all_reach r.store b) r.store t) (sym root_is) same

      -- files without names are charged as they were
      no_more : limits_written.inode_charge * nameless_in live ≤ k.root.limits.inode_charge * nameless_in live
      no_more = omega (arith, ap (λ (l : Limits). l.inode_charge * nameless_in live) limits_kept)

      -- what its blocks take was charged since the root's moment
      takes : TakesNoMore (room_behind h.at.blocks built).free (begun h.room)
      takes = omega (
        arith,
        r.charged.free,
        ap (free_blocks h.at.blocks r.store) root_is,
        takes_few h.at.blocks (reads h.disk) world k file live stands_over Ordinary asked bit built next x leads,
        ap (λ (l : Limits). need l k.changed) limits_kept,
        pays,
      )

      pub of_asked : IsOfLive h world r asked (work_for h.at.blocks k gate built next) (room_behind h.at.blocks built)
      of_asked = record {
        whole = whole_work h.at.blocks (reads h.disk) world k file live stands_over Ordinary asked bit built next x leads (other_slot k.slot) gate;
        blocks = refl;
        slot = ap other_slot (sym slot_is);
        follows = subst (λ (b : RootBody). IsFollowing Ordinary b next) root_is (record { generation = ap (λ (b : RootBody). b.generation) x.is; epoch = ap (λ (b : RootBody). b.epoch) x.is; limits = ap (λ (b : RootBody). b.limits) x.is });
        built = subst (λ (b : RootBody). IsBuilt h.at.blocks r.store b (trees_behind asked (trees_of world)) (plan_of built next)) root_is (made h.at.blocks (reads h.disk) world k file live stands_over Ordinary asked bit built next x leads);
        sound = λ t same holds. sound_next h.at.blocks (reads h.disk) world k file live stands_over Ordinary asked bit built next x leads t (here t same) holds;
        charged = λ t same holds. subst (λ (to : Tree). IsCharged (room_behind h.at.blocks built) h.at.blocks t next [] to) leads
            (charged h.at.blocks (reads h.disk) world k file live stands_over Ordinary asked bit built next x leads t (here t same) holds no_more);
        takes = takes;
        age = x.age;
        tree = subst (IsTree limits_written) leads tree;
      }

-- ---- a mount that is ready, and its live tree

-- a point that keeps the live tree leads to it
pub leads_to : (asked : AskedPoint) (trees : Trees) → KeepsLive asked → trees.live ≡ live_behind asked trees
leads_to Unasked trees keeps = refl
leads_to Plain trees keeps = refl
leads_to (Freezes name) trees keeps = refl
leads_to (Thaws name) trees keeps = refl
leads_to (Restores name) trees keeps = absurd keeps

module _ (h : Held) (world : World) (k : Kept) (rr : RunsReady h world k) where
  abbrev r : Runs h world
  r = rr.runs

  changed_since : HasChanged limits_written k.changed (image r.store k.root.inode_file) world.live h.room.charged
  changed_since = subst (λ (b : RootBody). HasChanged limits_written k.changed (image r.store b.inode_file) world.live h.room.charged) (sym rr.ready.root) rr.ready.changed

  fits_since : h.room.charged + limits_written.inode_charge * nameless_in (image r.store k.root.inode_file) ≤ h.room.free
  fits_since = subst (λ (b : RootBody). h.room.charged + limits_written.inode_charge * nameless_in (image r.store b.inode_file) ≤ h.room.free) (sym rr.ready.root) (omega (arith, r.charged.charged, r.charged.fits))

  -- what is needed was charged
  pays_for : need limits_written k.changed ≤ h.room.charged + limits_written.inode_charge * h.room.dropped
  pays_for = omega (arith, rr.ready.changed.paid, r.charged.parked)

  pub can_be_built : CanBeBuilt h.at.blocks (store_of (reads h.disk)) k
  can_be_built = ready_can_be_built h world r k rr.ready.slot rr.ready.root rr.ready.words k.root.inode_file world.live h.room.charged changed_since fits_since rr.ready.tree 0 (live_among k.root k.root.inode_file refl)

  pub of_live : (gate : Gate) (asked : AskedPoint) (bit : ℕ) (built : Built) (next : RootBody) → KeepsLive asked → IsBuiltOf h.at.blocks (reads h.disk) Ordinary k k.root.inode_file asked bit built next
      → IsOfLive h world r asked (work_for h.at.blocks k gate built next) (room_behind h.at.blocks built)
  of_live gate asked bit built next keeps x =
      of_asked h world r k rr.ready.slot rr.ready.root rr.ready.words k.root.inode_file world.live h.room.charged changed_since fits_since rr.ready.tree gate asked bit built next x (leads_to asked (trees_of world) keeps) pays_for
