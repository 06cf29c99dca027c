-- What a point makes of a disk on which a mount has replayed something.
use Rattle.std.proofs.Common.{◌≡◌, inl, inr, ⊎_elim, ℕ, ◌+◌, ◌*◌, ◌<◌, ◌≤◌, List, [], ◌++◌, Result, map as map_list, slice_index, replicate, None, false, refl, sym, ap, subst, ◌∙◌, arith}
use Rattle.std.specs.FinMap as map
use Rattle.std.specs.Prelude.{OnOk}
use Rattle.sn_device.specs.Sectors.{Contents, AreSectors, DependsOn}
use Rattle.sn_device.specs.Disk.{Disk, Always, reads}
use Rattle.sn_device.specs.Crash.{LeavesOnly}
use Rattle.sn_device.specs.declared.fault.Fault.{Fault}
use Rattle.sn_device.proofs.CrashLemmas.{Always-reads, Always-synced, LeavesOnly-now, LeavesOnly-touched}
use Rattle.sn_block.proofs.EffectLemmas.{OnOk-both}
use Rattle.sn_changed.specs.Changed.{HasChanged}
use Rattle.sn_image.specs.Image.{image}
use Rattle.sn_image.proofs.ByteLemmas.{data_whole}
use Rattle.sn_image.proofs.SoundNameLemmas.{sound_tree}
use Rattle.sn_layout.specs.declared.gate.Gate.{Gate}
use Rattle.sn_layout.specs.declared.geometry.Slot.{Slot}
use Rattle.sn_layout.specs.declared.root.RootBody.{RootBody}
use Rattle.sn_layout.specs.Geometry.{other_slot}
use Rattle.sn_layout.specs.RootBody.{IsRootBody}
use Rattle.sn_layout.specs.Superblock.{superblock_bytes}
use Rattle.sn_limits.specs.declared.limits.Limits.{Limits}
use Rattle.sn_limits.specs.Versions.{limits_written}
use Rattle.sn_model.specs.declared.change.Change.{Change}
use Rattle.sn_model.specs.Changes.{apply_all}
use Rattle.sn_model.specs.NameTree.{IsTree}
use Rattle.sn_model.specs.declared.outcome.AskedPoint.TheVariants.{Plain}
use Rattle.sn_model.specs.Settling.{nameless_in, settled}
use Rattle.sn_model.specs.Tree.{Tree}
use Rattle.sn_model.specs.World.{World, trees_of}
use Rattle.sn_model.proofs.SettlingLemmas.{dropping_kept, settle_alike}
use Rattle.sn_model.proofs.DropLemmas.{dropping_tree}
use Rattle.sn_model.proofs.ListLemmas.{covers_itself, lists_keep}
use Rattle.sn_ondisk.specs.Blocks.{block_at}
use Rattle.sn_ondisk.specs.LogHalf.{HasNoLater, base_of}
use Rattle.sn_ondisk.specs.MapCopy.{HasMap}
use Rattle.sn_ondisk.specs.TreeLaws.{SameIn}
use Rattle.sn_ondisk.specs.Trees.{Store, store_of}
use Rattle.sn_ondisk.proofs.BlockLemmas.{bytes_at-same}
use Rattle.sn_ondisk.proofs.MapLemmas.{HasMap-same}
use Rattle.sn_ondisk.proofs.OneLemmas.{later_replays}
use Rattle.sn_opening.specs.Opens.{IsDisk, Shows}
use Rattle.sn_opening.specs.Points.{HoldsAll, IsBuilt}
use Rattle.sn_opening.specs.Worlds.{StandsFor, all_reach, frozen_of}
use Rattle.sn_root.specs.Replacing.{LeavesEither}
use Rattle.sn_root.specs.declared.following.PointKind.TheVariants.{Recovery}
use Rattle.sn_sound.specs.Charges.{Fits, charges_from}
use Rattle.sn_sound.specs.Logs.{HasAgeLeft, IsToRecover}
use Rattle.sn_sound.specs.Maps.{IsSoundRoot, Rooted, free_blocks, frozen_root}
use Rattle.sn_sound.proofs.StandingLemmas.{first_among, lies_in_data}
use Rattle.sn_held.specs.Images.{IsImage}
use Rattle.sn_held.proofs.HeldLemmas.{each_half, image_shown}
use Rattle.sn_held.proofs.RoomLemmas.{settled_has_none}
use Rattle.sn_cp.specs.Points.{Work}
use Rattle.sn_cp.specs.Showing.{Finishes, HasRecords, InAround, InPoint, ShowsBeside, ShowsNext}
use Rattle.sn_cp.specs.Steps.{IsWhole, StandsAtStage}
use Rattle.sn_cp.specs.declared.stage.Stage.TheVariants.{Done}
use Rattle.sn_cp.proofs.AroundLemmas.{stays_apart}
use Rattle.sn_cp_build.specs.declared.building.Built.{Built}
use Rattle.sn_cp_held.specs.Builds.{IsBuiltOf, plan_of, work_for}
use Rattle.sn_cp_held.specs.Recovering.{HasReplayed, IsRecovered}
use Rattle.sn_held.specs.Held.{Kept}
use Rattle.sn_cp_held.specs.Wholes.{StandsKept}
use Rattle.sn_cp_held.proofs.LiveLemmas.{made, new_tree, sound_next, whole_work}
use Rattle.sn_cp_held.proofs.LiveLemmas as live
use Rattle.sn_cp_held.proofs.WholeLemmas.{later_weaker, no_later_depends}

-- what no step touches: the superblock, the map of the slot that counts, and the first places of the log's halves
record Around (n : ℕ) (slot : Slot) (words : List ℕ) (epoch : ℕ) (c : Contents) : Type 0 where
  disk : IsDisk n c
  formatted : block_at c 0 ≡ superblock_bytes (record { geometry = n })
  map : HasMap n c slot words
  own : HasNoLater c (base_of n epoch) (epoch + 1)
  other : HasNoLater c (base_of n (epoch + 1)) (epoch + 1)

depends : (n : ℕ) (slot : Slot) (words : List ℕ) (epoch : ℕ) → DependsOn (InAround n slot epoch) (Around n slot words epoch)
depends n slot words epoch c d whole_c whole_d agrees around = record {
  disk = record { size = around.disk.size; whole = whole_d; long = subst (λ (m : ℕ). 8 * n ≤ m) (sym agrees.count) around.disk.long };
  formatted = bytes_at-same c d 0 8 (λ i from to. agrees.same i (inl (from, to))) ∙ around.formatted;
  map = HasMap-same n c d slot words (λ i from to. agrees.same i (inr (inl (from, to)))) around.map;
  own = no_later_depends n epoch (epoch + 1) c d whole_c whole_d (record { count = agrees.count; same = λ i is. agrees.same i (inr (inr (inl is))) }) around.own;
  other = no_later_depends n (epoch + 1) (epoch + 1) c d whole_c whole_d (record { count = agrees.count; same = λ i is. agrees.same i (inr (inr (inr is))) }) around.other;
}

settled_again : (tree live : Tree) → live ≡ settled tree → settled live ≡ live
settled_again tree live is = ap settled is ∙ sym (settle_alike tree (settled tree) (dropping_kept tree tree (λ _. false) (covers_itself tree))) ∙ sym is

module _ (old new : Disk) (world : World) (im : IsImage (reads old) world) (k : Kept) (r : HasReplayed old world im k) where
  abbrev n : ℕ
  n = im.blocks

  abbrev s : Store
  s = store_of (reads old)

  abbrev older : List Change
  older = im.opens.older

  abbrev newer : List Change
  newer = im.opens.newer

  pub stands : StandsFor s k.root (older ++ newer) world
  stands = subst (λ (b : RootBody). StandsFor s b (older ++ newer) world) (sym r.root) im.opens.stands

  live_settled : world.live ≡ settled stands.tree
  live_settled = ap (λ (y : World). y.live) stands.settles

  none_nameless : nameless_in world.live ≡ 0
  none_nameless = ap nameless_in live_settled ∙ settled_has_none stands.tree

  root_body : IsRootBody k.root
  root_body = subst IsRootBody (sym r.root) im.opens.shown.newest.body.fits

  pub root_sound : IsSoundRoot n s k.root (slice_index k.words)
  root_sound = subst (λ (b : RootBody). IsSoundRoot n s b (slice_index k.words)) (sym r.root) (subst (λ (ws : List ℕ). IsSoundRoot n s im.opens.root (slice_index ws)) (sym r.words) im.sound)

  -- all was changed under the root's limits, under which its own tree is a name tree
  pub live_tree : IsTree k.root.limits world.live
  live_tree =
      let root : Rooted = record { bit = 0; inodes = k.root.inode_file } in
      let sound = root_sound.roots root (first_among root (map_list frozen_root k.root.snapshots)) in
      let before = sound_tree k.root.limits n s k.root.inode_file root_body.version (λ block lies. data_whole (reads old) n block im.disk.whole im.disk.long lies) sound in
      let after = lists_keep k.root.limits (older ++ newer) (image s k.root.inode_file) stands.tree before stands.applied in
      subst (IsTree k.root.limits) (sym live_settled) (dropping_tree k.root.limits stands.tree (λ _. false) after)

  pub all_fits : Fits k.root.limits (older ++ newer) (image s k.root.inode_file) (free_blocks n s k.root)
  all_fits = subst (λ (b : RootBody). Fits b.limits (older ++ newer) (image s b.inode_file) (free_blocks n s b)) (sym r.root) im.fits

  abbrev pub replayed_stands : StandsKept n (reads old) world k
  replayed_stands = record {
    store = s;
    older = older;
    newer = newer;
    disk = im.disk;
    shown = subst (λ (slot : Slot). Shows n s slot k.root older newer (reads old)) (sym r.slot) (subst (λ (b : RootBody). Shows n s im.opens.slot b older newer (reads old)) (sym r.root) (record { shown = im.opens.shown; same = λ block among. refl }));
    map = subst (λ (slot : Slot). HasMap n (reads old) slot k.words) (sym r.slot) (subst (λ (ws : List ℕ). HasMap n (reads old) im.opens.slot ws) (sym r.words) im.map);
    sound = root_sound;
    frozen = ap (λ (y : World). y.frozen) stands.settles;
    charged = charges_from k.root.limits (older ++ newer) (image s k.root.inode_file);
    changed = subst (λ (b : RootBody). HasChanged k.root.limits k.changed (image s b.inode_file) world.live (charges_from k.root.limits (older ++ newer) (image s b.inode_file))) (sym r.root) r.changed;
    fits = all_fits;
    tree = live_tree;
  }

  age : IsToRecover k.root (older ++ newer) (image s k.root.inode_file) → HasAgeLeft k.root
  age = subst (λ (b : RootBody). IsToRecover b (older ++ newer) (image s b.inode_file) → HasAgeLeft b) (sym r.root) im.age

  none_later : (epoch : ℕ) → HasNoLater (reads old) (base_of n epoch) (k.root.epoch + 1)
  none_later epoch = subst (λ (b : RootBody). HasNoLater (reads old) (base_of n epoch) (b.epoch + 1)) (sym r.root) (im.none_later epoch)

  around : Always old (Around n k.slot k.words k.root.epoch)
  around = Always-synced old (Around n k.slot k.words k.root.epoch) r.synced (record { disk = im.disk; formatted = im.spelled; map = replayed_stands.map; own = none_later k.root.epoch; other = none_later (k.root.epoch + 1) })

  old_image : (c : Contents) → Around n k.slot k.words k.root.epoch c → Shows n s k.slot k.root older newer c → IsImage c world
  old_image c a shows =
      image_shown n s k.slot k.root k.words older newer world im.opens.older_spelled im.opens.newer_spelled replayed_stands.sound stands all_fits age c a.disk a.formatted a.map
      (each_half n k.root.epoch (λ (b : ℕ). HasNoLater c b (k.root.epoch + 1)) a.own a.other) shows

  module _ (gate : Gate) (built : Built) (next : RootBody) (x : IsBuiltOf n (reads old) Recovery k k.root.inode_file Plain 0 built next) where
    abbrev w : Work
    w = work_for n k gate built next

    is_built : IsBuilt n s k.root (trees_of world) (plan_of built next)
    is_built = made n (reads old) world k k.root.inode_file world.live replayed_stands Recovery Plain 0 built next x refl

    whole_point : IsWhole w
    whole_point = whole_work n (reads old) world k k.root.inode_file world.live replayed_stands Recovery Plain 0 built next x refl (other_slot k.slot) gate

    next_limits : next.limits ≡ limits_written
    next_limits = ap (λ (b : RootBody). b.limits) x.is

    epoch_is : next.epoch ≡ k.root.epoch + 2
    epoch_is = ap (λ (b : RootBody). b.epoch) x.is

    nothing_at : (epoch : ℕ) → k.root.epoch + 1 < epoch → epoch ≤ k.root.epoch + 3 → HasRecords n epoch [] (reads old)
    nothing_at epoch after within =
        let most = replayed_stands.shown.shown.newest.body.fits.epoch.most in
        (0, later_replays (reads old) (base_of n epoch) (k.root.epoch + 1) epoch (none_later epoch) after (omega (arith, within, most)))

    beside : ShowsBeside w s k.slot k.root older newer [] [] old
    beside = record {
      beside = record { other = refl; later = is_built.later; lie = lies_in_data n s k.root (slice_index k.words) replayed_stands.sound; apart = is_built.apart };
      shown = Always-synced old (Shows n s k.slot k.root older newer) r.synced replayed_stands.shown;
      has_third = Always-synced old (HasRecords n next.epoch []) r.synced (nothing_at next.epoch (omega (arith, epoch_is)) (omega (arith, epoch_is)));
      has_fourth = Always-synced old (HasRecords n (next.epoch + 1) []) r.synced (nothing_at (next.epoch + 1) (omega (arith, epoch_is)) (omega (arith, epoch_is)));
    }

    module _ (t : Store) (same : SameIn (all_reach s k.root) s t) (holds : HoldsAll t (plan_of built next).blocks) where
      tree_is : image t next.inode_file ≡ world.live
      tree_is = new_tree n (reads old) world k k.root.inode_file world.live replayed_stands Recovery Plain 0 built next x refl t same holds

      frozen_is : world.frozen ≡ frozen_of t next.snapshots
      frozen_is = sym (is_built.frozen t same holds)

      live_is : world.live ≡ settled (image t next.inode_file)
      live_is = sym (settled_again stands.tree world.live live_settled) ∙ ap settled (sym tree_is)

      next_stands : StandsFor t next [] world
      unfolding apply_all
      next_stands = record {
        tree = image t next.inode_file;
        applied = refl;
        settles = stands.settles ∙ (λ i. record { live = (sym live_settled ∙ live_is) i; frozen = (sym (ap (λ (y : World). y.frozen) stands.settles) ∙ frozen_is) i; sessions = replicate 64 None; descriptors = map.empty });
      }

      nothing_left : IsToRecover next [] (image t next.inode_file) → ⊥
      nothing_left (inl other) = other (ap (λ (l : Limits). l.version) next_limits)
      nothing_left (inr (inl some)) = some refl
      nothing_left (inr (inr some)) = some (ap nameless_in tree_is ∙ none_nameless)

      next_fits : Fits next.limits [] (image t next.inode_file) (free_blocks n t next)
      next_fits =
          let charged = live.charged n (reads old) world k k.root.inode_file world.live replayed_stands Recovery Plain 0 built next x refl t same holds (omega (arith, none_nameless)) in
          subst (λ (l : Limits). Fits l [] (image t next.inode_file) (free_blocks n t next)) (sym next_limits)
          (subst (Fits limits_written [] (image t next.inode_file)) charged.free charged.fits)

    module _ {T E : Type 0} (result : Result T E) (whole : AreSectors (reads new)) (finishes : Finishes w result old new) where
      around_stays : LeavesOnly old new (Around n k.slot k.words k.root.epoch)
      around_stays =
          LeavesOnly-touched (InPoint w) (InAround n k.slot k.root.epoch) (Around n k.slot k.words k.root.epoch) (depends n k.slot k.words k.root.epoch)
          (stays_apart w whole_point k.slot refl k.root.epoch) old new im.disk.whole around finishes.touched

      either : LeavesEither result old new (Shows n s k.slot k.root older newer) (ShowsNext w s k.root [] [])
      either = finishes.shown s k.slot k.root older newer [] [] beside

      none_after : (c : Contents) → Around n k.slot k.words k.root.epoch c → (epoch : ℕ) → HasNoLater c (base_of n epoch) (next.epoch + 1)
      none_after c a = each_half n k.root.epoch (λ (b : ℕ). HasNoLater c b (next.epoch + 1))
          (later_weaker c (base_of n k.root.epoch) (k.root.epoch + 1) (next.epoch + 1) (omega (arith, epoch_is)) a.own)
          (later_weaker c (base_of n (k.root.epoch + 1)) (k.root.epoch + 1) (next.epoch + 1) (omega (arith, epoch_is)) a.other)

      abbrev next_image : (c : Contents) → Around n k.slot k.words k.root.epoch c → ShowsNext w s k.root [] [] c → IsImage c world
      next_image c a shows = record {
        blocks = n;
        disk = a.disk;
        spelled = a.formatted;
        opens = record {
          slot = other_slot k.slot;
          root = next;
          older = [];
          newer = [];
          older_spelled = tt;
          newer_spelled = tt;
          shown = shows.shown;
          stands = next_stands (store_of c) shows.same shows.blocks;
        };
        words = built.map;
        map = shows.map;
        sound = sound_next n (reads old) world k k.root.inode_file world.live replayed_stands Recovery Plain 0 built next x refl (store_of c) shows.same shows.blocks;
        none_later = none_after c a;
        fits = next_fits (store_of c) shows.same shows.blocks;
        age = λ recovers. absurd (nothing_left (store_of c) shows.same shows.blocks recovers);
      }

      pub recovery_leaves : LeavesOnly old new (λ c. IsImage c world)
      recovery_leaves = record {
        follows = either.any_moment.follows;
        each = λ c since. let a = around_stays.each c since in ⊎_elim (λ shows. old_image c a shows) (λ shows. next_image c a shows) (either.any_moment.each c since);
      }

      recovered_on : StandsAtStage w Done new → Always new (ShowsNext w s k.root [] []) → IsRecovered new world w
      recovered_on done shows =
          let a = Always-reads new (Around n k.slot k.words k.root.epoch) whole (LeavesOnly-now old new (Around n k.slot k.words k.root.epoch) around_stays) in
          let now = Always-reads new (ShowsNext w s k.root [] []) whole shows in
          record {
            live = tree_is (store_of (reads new)) now.same now.blocks;
            image = next_image (reads new) a now;
            blocks = refl;
            slot = refl;
            root = refl;
            words = refl;
            older = refl;
            newer = refl;
            synced = done.reached.1;
          }

      pub recovered : OnOk result (IsRecovered new world w)
      recovered = OnOk-both result recovered_on finishes.done either.done

pub recoveries_leave_the_world : (old new : Disk) (world : World) (im : IsImage (reads old) world) (k : Kept) (gate : Gate) (built : Built) (next : RootBody) (result : Result (Unit {0}) Fault) → HasReplayed old world im k
    → IsBuiltOf im.blocks (reads old) Recovery k k.root.inode_file Plain 0 built next → AreSectors (reads new) → Finishes (work_for im.blocks k gate built next) result old new
    → LeavesOnly old new (λ c. IsImage c world) × OnOk result (IsRecovered new world (work_for im.blocks k gate built next))
recoveries_leave_the_world old new world im k gate built next result replayed is whole finishes =
    (recovery_leaves old new world im k replayed gate built next is result whole finishes, recovered old new world im k replayed gate built next is result whole finishes)
