use Rattle.std.proofs.Common.{◌≡◌, ℕ, ◌+◌, inl, inr, IsTrue, sym, ap, subst, ◌∙◌, arith}
use Rattle.sn_alloc.specs.Taking.{free_data}
use Rattle.sn_device.specs.Disk.{Always, Disk, reads}
use Rattle.sn_block.specs.Lending.{device_of}
use Rattle.sn_cp_whole.specs.Planning.{kept_in}
use Rattle.sn_cp_whole.specs.Recovering.{IsApart}
use Rattle.sn_cp_whole.specs.declared.base.PointBase.{PointBase}
use Rattle.sn_desc.specs.InUse.{InUse, live_in}
use Rattle.sn_device.specs.Crash.{Touches}
use Rattle.sn_device.specs.Sectors.{Contents}
use Rattle.sn_block.specs.Effects.{Nowhere}
use Rattle.sn_image.specs.Image.{image}
use Rattle.sn_layout.specs.declared.geometry.Area.TheVariants.{Data}
use Rattle.sn_layout.specs.declared.geometry.Slot.{Slot}
use Rattle.sn_layout.specs.Geometry.{start_of}
use Rattle.sn_live.specs.Live.{IsLive, shown_of}
use Rattle.sn_live_world.specs.World.{HasDrops, changes_of, tree_over, world_over}
use Rattle.sn_live_world.specs.declared.world.LiveWorld.{LiveWorld}
use Rattle.sn_log.specs.Clearing.{Clears}
use Rattle.sn_log.specs.Positions.{LogPosition, first_of, half_base}
use Rattle.sn_model.specs.declared.fault.MountFault.{MountFault}
use Rattle.sn_model.specs.Settling.{settled}
use Rattle.sn_model.specs.Tree.{Tree}
use Rattle.sn_model.specs.World.{World, new_world}
use Rattle.sn_ondisk.specs.Gates.{IsClosed}
use Rattle.sn_ondisk.specs.LogHalf.{base_of}
use Rattle.sn_ondisk.specs.Trees.{store_of}
use Rattle.sn_overlay.specs.Layers.{Layer}
use Rattle.sn_overlay.specs.Overlays.{layer_of, no_changes}
use Rattle.sn_held.specs.Held.{Kept}
use Rattle.sn_held.specs.Rooms.{fresh}
use Rattle.sn_examine.specs.Finding.{HasFound}
use Rattle.sn_examine.specs.Laws.{IsSomeClean}
use Rattle.sn_check.specs.Verdicts.{IsCause}
use Rattle.sn_mount.specs.Costs.{CostsFound, CostsMount}
use Rattle.sn_mount.specs.FoundDisk.{kept_of}
use Rattle.sn_mount.specs.Rooting.{BecomesRoot}
use Rattle.sn_mount.specs.Recovering.{WritesAtFault}
use Rattle.sn_mount.specs.Settling.{IsNoRoot, MakesRoot}
use Rattle.sn_mount.specs.declared.found.FoundDisk.{FoundDisk}
use Rattle.sn_mount.proofs.CauseLemmas.{read_cause, writes_none}
use Rattle.sn_mount.proofs.CostLemmas.{few_costs, mount_costs, some_cost}
use Rattle.sn_mount.proofs.RecoverLemmas.{read_writes}
use Rattle.sn_mount.proofs.RootingLemmas.{becomes_found, mounts_root}
use Rattle.std.specs.Prelude.{IfOk}
use Rattle.sn_mount.proofs.MountLemmas.{HasCleared, HasRooted, below_is, cleared_keeps, image_synced, is_world, leaves_at_end, leaves_at_root, no_root_cause, no_root_touches, recovered, runs_shown}
use Rattle.sn_mount.proofs.recovering.recover.Given.{Over}
use Rattle.sn_mount.proofs.recovering.recover.Goals.{After-clear, After-make_root, After-new-in-Ok-clear}
use Rattle.sn_mount.proofs.recovering.recover.Goals as goal

-- ---- what was read and made, up to a root

module _ (g : Over) (c : After-make_root g) where
  abbrev sectors : ℕ
  sectors = (g.D.Device.status (device_of c.args.blocks.now)).sectors

  abbrev old : Disk
  old = g.D.Device.disk (device_of c.args.blocks.now)

  abbrev mid : Disk
  mid = g.D.Device.disk (device_of c.sync.new.self)

  abbrev rooted : Disk
  rooted = g.D.Device.disk (device_of c.make_root.new.blocks)

  abbrev on_disk : FoundDisk
  on_disk = c.in-Ok-examine.found

  abbrev below : Tree
  below = image (store_of (reads mid)) on_disk.root.inode_file

  abbrev shown : Tree
  shown = shown_of on_disk.live below

  abbrev settled_base : PointBase
  settled_base = c.in-Ok-settle.field-0.base

  abbrev settled_world : LiveWorld
  settled_world = c.in-Ok-settle.field-0.world

  abbrev planned : Kept
  planned = kept_in settled_base (changes_of settled_world)

  module _ (told : IsTrue g.D.Device.tells_bytes) where
    live_below : IsLive on_disk.live below
    live_below = c.in-Ok-examine.ensures.live told

    -- what the settled world shows of the tree below
    settled_shows : world_over settled_world below ≡ record new_world { live = settled shown }
    settled_shows = c.in-Ok-settle.ensures.world below live_below

    -- what was found, on the disk as it was
    found_here : HasFound sectors (reads old) (kept_of on_disk) on_disk.at shown on_disk.room on_disk.recovers
    found_here =
        subst (λ (x : Contents). HasFound sectors x (kept_of on_disk) on_disk.at shown on_disk.room on_disk.recovers) (c.in-Ok-sync.ensures.disk told).same
        (subst (λ (n : ℕ). HasFound n (reads mid) (kept_of on_disk) on_disk.at shown on_disk.room on_disk.recovers) c.in-Ok-sync.ensures.counts.sectors (c.in-Ok-examine.ensures.found told))

    -- what is said of the call that makes the root, at the numbers and disks as they are here
    at_its : (P : ℕ → Disk → Layer → Type 0) → P on_disk.geometry (g.D.Device.disk (device_of c.examine.new.blocks)) (layer_of c.changes.result.now) → P on_disk.at.blocks mid (changes_of settled_world)
    at_its P p =
        subst (λ (n : ℕ). P n mid (changes_of settled_world)) (sym c.in-Ok-examine.ensures.blocks)
        (subst (λ (d : Disk). P on_disk.geometry d (changes_of settled_world)) (c.in-Ok-examine.ensures.same told)
        (subst (λ (l : Layer). P on_disk.geometry (g.D.Device.disk (device_of c.examine.new.blocks)) l) c.changes.ensures p))

    made : HasRooted sectors old mid rooted (kept_of on_disk) on_disk.at shown planned c.make_root.result
    made =
        let sync = c.in-Ok-sync.ensures.disk told in
        let same = c.in-Ok-sync.ensures.counts.sectors in
        let settles = c.in-Ok-settle.ensures.changed below live_below in
        record {
          room = on_disk.room;
          recovers = on_disk.recovers;
          found = subst (λ (n : ℕ). HasFound n (reads mid) (kept_of on_disk) on_disk.at shown on_disk.room on_disk.recovers) same (c.in-Ok-examine.ensures.found told);
          device = record { whole = g.met.D.Device.whole (device_of c.sync.new.self) told; count = g.met.D.Device.count (device_of c.sync.new.self) told ∙ same };
          clean = subst (λ (n : ℕ). IsSomeClean n (reads mid)) same (c.in-Ok-examine.ensures.clean told);
          first = sync.touched;
          same = sync.same;
          synced = sync.synced;
          settles = settles;
          tree = live_below.shown.whole;
          makes = at_its (λ n d l. MakesRoot c.make_root.result n (kept_in settled_base l) on_disk.recovers d rooted) (c.make_root.ensures.makes told);
          touched = subst (λ (s : Slot). Touches (IsApart on_disk.at.blocks s) mid rooted) settles.slot (at_its (λ n d l. Touches (IsApart n settled_base.slot) d rooted) (c.make_root.ensures.touched told));
          becomes = at_its (λ n d l. IfOk c.make_root.result (λ next. BecomesRoot on_disk.recovers (kept_in settled_base l) (kept_in next no_changes))) c.make_root.ensures.root;
        }

-- ---- the clearing

module _ (g : Over) (c : After-clear g) (told : IsTrue g.D.Device.tells_bytes) where
  abbrev blocks : ℕ
  blocks = c.in-Ok-examine.found.at.blocks

  abbrev base : PointBase
  base = c.in-Ok-make_root.base

  abbrev cleared : Disk
  cleared = g.D.Device.disk (device_of c.clear.new.blocks)

  half_is : half_base c.in-Ok-examine.found.geometry c.of_epoch.result ≡ base_of blocks base.root.epoch
  half_is = ap (λ (n : ℕ). half_base n c.of_epoch.result) (sym c.in-Ok-examine.ensures.blocks) ∙ ap (half_base blocks) c.of_epoch.ensures

  clears : Clears (base_of blocks base.root.epoch) 0 c.clear.result (g.D.Device.disk (device_of c.make_root.new.blocks)) cleared
  clears = subst (λ (b : ℕ). Clears b 0 c.clear.result (g.D.Device.disk (device_of c.make_root.new.blocks)) cleared) half_is (c.clear.ensures.disk told)

-- ---- after it

module _ (g : Over) (c : After-new-in-Ok-clear g) where
  abbrev rooted_tree : Tree
  rooted_tree = image (store_of (reads (g.D.Device.disk (device_of c.clear.new.blocks)))) c.in-Ok-make_root.base.root.inode_file

  ended : IsTrue g.D.Device.tells_bytes → HasCleared c.in-Ok-examine.found.at.blocks c.in-Ok-make_root.base (g.D.Device.disk (device_of c.clear.new.blocks)) c.new-in-Ok-clear.result c.fresh-room.result
  ended told =
      let blocks_are = sym c.in-Ok-examine.ensures.blocks in
      let base = c.in-Ok-make_root.base in
      let done = c.in-Ok-clear.ensures.disk told in
      record {
        whole = g.met.D.Device.whole (device_of c.clear.new.blocks) told;
        synced = done.written.synced;
        closed = subst (λ (b : ℕ). Always (g.D.Device.disk (device_of c.clear.new.blocks)) (λ x. IsClosed x (b + 0))) (ap (λ (n : ℕ). half_base n c.of_epoch.result) blocks_are ∙ ap (half_base c.in-Ok-examine.found.at.blocks) c.of_epoch.ensures) done.closed;
        at_first = c.new-in-Ok-clear.ensures ∙ c.first-at.ensures ∙ ap (λ (n : ℕ). first_of n base.root.epoch) blocks_are;
        room_fresh = c.fresh-room.ensures ∙ ap fresh (c.count_free_from.ensures ∙ ap (free_data base.map) (c.start.ensures ∙ ap (λ (n : ℕ). start_of n Data) blocks_are));
      }

  cost : CostsFound c.in-Ok-examine.found.recovers c.in-Ok-examine.found.geometry (g.D.Device.status (device_of c.args.blocks.now)) (g.D.Device.status (device_of c.clear.new.blocks))
  cost =
      mount_costs c.in-Ok-examine.found.recovers c.in-Ok-examine.found.geometry (g.D.Device.status (device_of c.args.blocks.now)) (g.D.Device.status (device_of c.sync.new.self)) (g.D.Device.status (device_of c.examine.new.blocks)) (g.D.Device.status (device_of c.make_root.new.blocks))
      (g.D.Device.status (device_of c.clear.new.blocks)) c.in-Ok-sync.ensures.counts.done c.in-Ok-examine.ensures.idle c.in-Ok-make_root.ensures.costs.done c.in-Ok-clear.ensures.counts.done

  module _ (below : Tree) (settled_world : World) (settled_shows : world_over c.in-Ok-settle.field-0.world below ≡ settled_world) (next : rooted_tree ≡ settled_world.live) where
    next_is : rooted_tree ≡ tree_over c.in-Ok-settle.field-0.world below
    next_is = next ∙ sym (ap (λ (x : World). x.live) settled_shows)

    -- the same is shown of the tree of the root that counts
    world_shows : world_over c.replace_root.new.self rooted_tree ≡ settled_world
    world_shows = c.replace_root.ensures.world below rooted_tree next_is ∙ settled_shows

pub returns-in-Ok-clear-clause-recovers : goal.returns-in-Ok-clear-clause-recovers
returns-in-Ok-clear-clause-recovers g c told =
    let at = goal.at.returns-in-Ok-clear-clause-recovers g c in
    let m = made g at.After-make_root told in
    let done = clears g at.After-clear told in
    let end = ended g at.After-new-in-Ok-clear told in
    let settled_so = settled_shows g at.After-make_root told in
    let shows = world_shows g at.After-new-in-Ok-clear _ _ settled_so (below_is m c.in-Ok-make_root.is done end) in
    (cleared_keeps m c.in-Ok-make_root.is done, λ w is. recovered m c.in-Ok-make_root.is done end _ shows _ c.replace_root.ensures.changes w (image_synced m w is))

pub returns-in-Ok-clear-clause-runs : goal.returns-in-Ok-clear-clause-runs
returns-in-Ok-clear-clause-runs g c told =
    let at = goal.at.returns-in-Ok-clear-clause-runs g c in
    let m = made g at.After-make_root told in
    let done = clears g at.After-clear told in
    let end = ended g at.After-new-in-Ok-clear told in
    let settled_so = settled_shows g at.After-make_root told in
    let shows = world_shows g at.After-new-in-Ok-clear _ _ settled_so (below_is m c.in-Ok-make_root.is done end) in
    runs_shown m c.in-Ok-make_root.is done end _ shows _ c.replace_root.ensures.changes

pub returns-in-Ok-clear-clause-whole : goal.returns-in-Ok-clear-clause-whole
returns-in-Ok-clear-clause-whole g c told =
    let at = goal.at.returns-in-Ok-clear-clause-whole g c in
    let m = made g at.After-make_root told in
    let done = clears g at.After-clear told in
    let end = ended g at.After-new-in-Ok-clear told in
    let settled_so = settled_shows g at.After-make_root told in
    let shows = world_shows g at.After-new-in-Ok-clear _ _ settled_so (below_is m c.in-Ok-make_root.is done end) in
    is_world m c.in-Ok-make_root.is done end _ shows

pub returns-in-Ok-clear-clause-over : goal.returns-in-Ok-clear-clause-over
returns-in-Ok-clear-clause-over g c told =
    let at = goal.at.returns-in-Ok-clear-clause-over g c in
    let m = made g at.After-make_root told in
    let done = clears g at.After-clear told in
    let end = ended g at.After-new-in-Ok-clear told in
    let settled_so = settled_shows g at.After-make_root told in
    let next = next_is g at.After-new-in-Ok-clear _ _ settled_so (below_is m c.in-Ok-make_root.is done end) in
    c.replace_root.ensures.over _ _ next (c.in-Ok-settle.ensures.over _ (live_below g at.After-make_root told))

pub returns-in-Ok-clear-clause-drops : goal.returns-in-Ok-clear-clause-drops
returns-in-Ok-clear-clause-drops g c = subst (HasDrops c.replace_root.new.self) (sym (ap (λ (u : InUse). live_in u.descriptors) c.replace_root.ensures.sessions ∙ c.in-Ok-settle.ensures.open)) (c.replace_root.ensures.drops 0 c.in-Ok-settle.ensures.drops)

pub returns-in-Ok-clear-clause-base : goal.returns-in-Ok-clear-clause-base
returns-in-Ok-clear-clause-base g c =
    let is = c.new-in-Ok-clear.ensures ∙ c.first-at.ensures in
    record { body = c.in-Ok-make_root.ensures.body; words = c.in-Ok-make_root.ensures.words ∙ sym (ap (λ (p : LogPosition). p.blocks) is); epoch = ap (λ (p : LogPosition). p.epoch) is }

pub returns-in-Ok-clear-clause-log : goal.returns-in-Ok-clear-clause-log
returns-in-Ok-clear-clause-log g c =
    let is = c.new-in-Ok-clear.ensures ∙ c.first-at.ensures in
    is ∙ ap (λ (n : ℕ). first_of n c.in-Ok-make_root.base.root.epoch) (sym (ap (λ (p : LogPosition). p.blocks) is))

pub returns-in-Ok-clear-clause-room : goal.returns-in-Ok-clear-clause-room
returns-in-Ok-clear-clause-room g c =
    let is = c.new-in-Ok-clear.ensures ∙ c.first-at.ensures in
    c.fresh-room.ensures ∙ ap fresh (c.count_free_from.ensures ∙ ap (free_data c.in-Ok-make_root.base.map) (c.start.ensures ∙ ap (λ (n : ℕ). start_of n Data) (sym (ap (λ (p : LogPosition). p.blocks) is))))

pub returns-in-Ok-clear-clause-root : goal.returns-in-Ok-clear-clause-root
returns-in-Ok-clear-clause-root g c told world im =
    let at = goal.at.returns-in-Ok-clear-clause-root g c in
    let kept = c.in-Ok-settle.ensures.base in
    let old = device_of c.args.blocks.now in
    mounts_root _ _ (kept_of c.in-Ok-examine.found) c.in-Ok-examine.found.at _ _ c.in-Ok-examine.found.recovers (found_here g at.After-make_root told) (g.met.D.Device.count old told) world im c.in-Ok-make_root.base no_changes _ _ _
    (becomes_found c.in-Ok-examine.found.recovers (kept_of c.in-Ok-examine.found) c.in-Ok-settle.field-0.base c.in-Ok-make_root.base (layer_of c.changes.result.now) no_changes kept.0 kept.1 kept.2 c.in-Ok-make_root.ensures.root)
    (subst (λ (n : ℕ). CostsFound c.in-Ok-examine.found.recovers n (g.D.Device.status old) (g.D.Device.status (device_of c.clear.new.blocks))) (sym c.in-Ok-examine.ensures.blocks) (cost g at.After-new-in-Ok-clear))

pub returns-in-Ok-clear-clause-done : goal.returns-in-Ok-clear-clause-done
returns-in-Ok-clear-clause-done g c =
    let at = goal.at.returns-in-Ok-clear-clause-done g c in
    let is = c.new-in-Ok-clear.ensures ∙ c.first-at.ensures in
    subst (λ (n : ℕ). CostsMount n (g.D.Device.status (device_of c.args.blocks.now)) (g.D.Device.status (device_of c.clear.new.blocks))) (sym (ap (λ (p : LogPosition). p.blocks) is))
    (some_cost c.in-Ok-examine.found.recovers c.in-Ok-examine.found.geometry _ _ (cost g at.After-new-in-Ok-clear))

pub returns-in-Ok-clear-clause-costs : goal.returns-in-Ok-clear-clause-costs
returns-in-Ok-clear-clause-costs g c =
    few_costs c.in-Ok-examine.found.geometry (g.D.Device.status (device_of c.args.blocks.now)) (g.D.Device.status (device_of c.sync.new.self)) (g.D.Device.status (device_of c.examine.new.blocks)) (g.D.Device.status (device_of c.make_root.new.blocks)) (g.D.Device.status (device_of c.clear.new.blocks)) (omega (arith, c.in-Ok-examine.ensures.within, c.in-Ok-sync.ensures.counts.sectors)) (omega (arith, c.in-Ok-sync.ensures.counts.writes), omega (arith, c.in-Ok-sync.ensures.counts.syncs)) c.in-Ok-examine.ensures.idle
    (c.in-Ok-make_root.ensures.costs.writes, c.in-Ok-make_root.ensures.costs.syncs) (c.in-Ok-clear.ensures.counts.writes, c.in-Ok-clear.ensures.counts.syncs)

pub returns-in-Err-clear-clause-costs : goal.returns-in-Err-clear-clause-costs
returns-in-Err-clear-clause-costs g c =
    few_costs c.in-Ok-examine.found.geometry (g.D.Device.status (device_of c.args.blocks.now)) (g.D.Device.status (device_of c.sync.new.self)) (g.D.Device.status (device_of c.examine.new.blocks)) (g.D.Device.status (device_of c.make_root.new.blocks)) (g.D.Device.status (device_of c.clear.new.blocks)) (omega (arith, c.in-Ok-examine.ensures.within, c.in-Ok-sync.ensures.counts.sectors)) (omega (arith, c.in-Ok-sync.ensures.counts.writes), omega (arith, c.in-Ok-sync.ensures.counts.syncs)) c.in-Ok-examine.ensures.idle
    (c.in-Ok-make_root.ensures.costs.writes, c.in-Ok-make_root.ensures.costs.syncs) (c.in-Err-clear.ensures.counts.writes, c.in-Err-clear.ensures.counts.syncs)

pub returns-in-Err-make_root-clause-costs : goal.returns-in-Err-make_root-clause-costs
returns-in-Err-make_root-clause-costs g c =
    few_costs c.in-Ok-examine.found.geometry (g.D.Device.status (device_of c.args.blocks.now)) (g.D.Device.status (device_of c.sync.new.self)) (g.D.Device.status (device_of c.examine.new.blocks)) (g.D.Device.status (device_of c.make_root.new.blocks)) (g.D.Device.status (device_of c.make_root.new.blocks)) (omega (arith, c.in-Ok-examine.ensures.within, c.in-Ok-sync.ensures.counts.sectors)) (omega (arith, c.in-Ok-sync.ensures.counts.writes), omega (arith, c.in-Ok-sync.ensures.counts.syncs)) c.in-Ok-examine.ensures.idle
    (c.in-Err-make_root.ensures.costs.writes, c.in-Err-make_root.ensures.costs.syncs) (omega arith, omega arith)

pub returns-in-Err-clear-clause-recovers : goal.returns-in-Err-clear-clause-recovers
returns-in-Err-clear-clause-recovers g c told =
    let at = goal.at.returns-in-Err-clear-clause-recovers g c in
    let m = made g at.After-make_root told in
    let done = clears g at.After-clear told in
    let sectors = (g.D.Device.status (device_of c.args.blocks.now)).sectors in
    let old = g.D.Device.disk (device_of c.args.blocks.now) in
    let fault = c.in-Err-clear.fault in (
      subst (IsCause sectors (reads old)) (sym c.fault_of.ensures) (read_cause fault sectors (reads old)),
      subst (λ (x : MountFault). WritesAtFault x sectors old (g.D.Device.disk (device_of c.clear.new.blocks))) (sym c.fault_of.ensures) (read_writes fault sectors old _ (cleared_keeps m c.in-Ok-make_root.is done)),
      λ w is. inr (leaves_at_end m c.in-Ok-make_root.is done w (image_synced m w is)),
    )

pub returns-in-Err-make_root-clause-recovers : goal.returns-in-Err-make_root-clause-recovers
returns-in-Err-make_root-clause-recovers g c told =
    let at = goal.at.returns-in-Err-make_root-clause-recovers g c in
    let m = made g at.After-make_root told in
    let fault = c.in-Err-make_root.fault in
    let rooted = g.D.Device.disk (device_of c.make_root.new.blocks) in
    let none = at_its g at.After-make_root told (λ n d l. IsNoRoot fault n (kept_in c.in-Ok-settle.field-0.base l) d rooted) (c.in-Err-make_root.ensures.none told) in (
      no_root_cause m fault none,
      no_root_touches m fault none,
      λ w is. inr (leaves_at_root m w (image_synced m w is)),
    )

pub returns-in-Ok-clear-clause-clean : goal.returns-in-Ok-clear-clause-clean
returns-in-Ok-clear-clause-clean g c told =
    let sync = c.in-Ok-sync.ensures.disk told in
    let sectors = (g.D.Device.status (device_of c.args.blocks.now)).sectors in
    subst (IsSomeClean sectors) sync.same (subst (λ (n : ℕ). IsSomeClean n (reads (g.D.Device.disk (device_of c.sync.new.self)))) c.in-Ok-sync.ensures.counts.sectors (c.in-Ok-examine.ensures.clean told))

pub returns-in-Err-clause-recovers : goal.returns-in-Err-clause-recovers
returns-in-Err-clause-recovers g c told =
    let sync = c.in-Ok-sync.ensures.disk told in
    let sectors = (g.D.Device.status (device_of c.args.blocks.now)).sectors in
    let old = g.D.Device.disk (device_of c.args.blocks.now) in
    let f = c.in-Err.fault in
    let touches = subst (λ (d : Disk). Touches Nowhere old d) (sym (c.in-Err.ensures.same told)) sync.touched in (
      subst (λ (x : Contents). IsCause sectors x f) sync.same (subst (λ (n : ℕ). IsCause n (reads (g.D.Device.disk (device_of c.sync.new.self))) f) c.in-Ok-sync.ensures.counts.sectors (c.in-Err.ensures.cause told)),
      writes_none f sectors old (g.D.Device.disk (device_of c.examine.new.blocks)) touches,
      λ w is. inl touches,
    )
