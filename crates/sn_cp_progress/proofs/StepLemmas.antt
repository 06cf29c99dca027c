-- What the steps of a point leave of the world that a mount runs over, before the last.
use Rattle.std.proofs.Common.{◌≡◌, inl, inr, ℕ, ◌+◌, ◌*◌, ◌^◌, ◌<◌, ◌≤◌, Bool, true, false, nat_lt, if◌then◌else◌, List, [], length, slice_index, Result, refl, sym, ap, subst, ◌∙◌, arith}
use Rattle.std.specs.Prelude.{OnOk}
use Rattle.sn_device.specs.Sectors.{AreDisjoint, AreSectors, Contents, DependsOn}
use Rattle.sn_device.specs.Disk.{Always, Disk, reads}
use Rattle.sn_device.specs.Crash.{LeavesOnly, Touches}
use Rattle.sn_device.specs.declared.fault.Fault.{Fault}
use Rattle.sn_device.proofs.CrashLemmas.{Always-reads, LeavesOnly-now, LeavesOnly-touched, Touches-within}
use Rattle.sn_block.proofs.EffectLemmas.{OnOk-then}
use Rattle.sn_layout.specs.declared.gate.Gate.{Gate}
use Rattle.sn_layout.specs.declared.gate.Gate.TheVariants.{Open, Closed}
use Rattle.sn_layout.specs.declared.geometry.Slot.{Slot}
use Rattle.sn_layout.specs.Geometry.{map_blocks}
use Rattle.sn_layout.specs.Superblock.{superblock_bytes}
use Rattle.sn_log.specs.Positions.{IsReadyAt, LogPosition, base_at, payloads_of}
use Rattle.sn_model.specs.declared.change.Change.{Change}
use Rattle.sn_model.specs.Settling.{settle}
use Rattle.sn_model.specs.Tree.{Tree}
use Rattle.sn_model.specs.World.{World}
use Rattle.sn_ondisk.specs.Blocks.{block_at}
use Rattle.sn_ondisk.specs.LogHalf.{HasNoLater, base_of}
use Rattle.sn_ondisk.specs.MapCopy.{HasMap}
use Rattle.sn_ondisk.proofs.BlockLemmas.{bytes_at-same}
use Rattle.sn_ondisk.proofs.LogLemmas.{Leads-end, no_later-same, ready-same}
use Rattle.sn_ondisk.proofs.MapLemmas.{HasMap-same}
use Rattle.sn_opening.specs.Opens.{IsDisk, LieInData, Shows}
use Rattle.sn_opening.specs.Worlds.{all_reach}
use Rattle.sn_sound.proofs.StandingLemmas.{lies_in_data}
use Rattle.sn_held.specs.Held.{Held, Runs}
use Rattle.sn_held.specs.Images.{IsImage}
use Rattle.sn_held.proofs.EventLemmas.{disk_always, fits_now, stands_for}
use Rattle.sn_held.proofs.HeldLemmas.{each_half, image_shown, ready_no_later}
use Rattle.sn_cp.specs.Points.{Work}
use Rattle.sn_cp.specs.Showing.{InAround, InPoint, IsBeforeOpening, ShowsBeside}
use Rattle.sn_cp.specs.Steps.{InStep, IsWhole, IsWithin, StandsAtStage, StepsTo, next_stage, with_map}
use Rattle.sn_cp.specs.declared.stage.Stage.{Stage}
use Rattle.sn_cp.specs.declared.stage.Stage.TheVariants.{Blocks, MapBlocks, Stored, Shut, Bodied, Done}
use Rattle.sn_cp.proofs.AroundLemmas.{stays_apart}
use Rattle.sn_cp.proofs.CountLemmas.{stage_goes_on, stage_next}
use Rattle.sn_cp.proofs.ShowLemmas.{ordinary_show, steps_keep}
use Rattle.sn_cp_held.proofs.WholeLemmas.{later_weaker}
use Rattle.sn_cp_progress.specs.Progress.{LeadsTo, Progress, RunsTo}

-- ---- what no step touches

-- the superblock, the map of the slot that counts, the half of the root's epoch, which begins with no record of a later one, and that of the next, whose records are these
pub record LiesAround (n : ℕ) (slot : Slot) (words : List ℕ) (epoch : ℕ) (at : LogPosition) (newer : List Change) (c : Contents) : Type 0 where
  pub disk : IsDisk n c
  pub formatted : block_at c 0 ≡ superblock_bytes (record { geometry = n })
  pub map : HasMap n c slot words
  pub none_later : HasNoLater c (base_of n epoch) epoch
  pub ready : IsReadyAt at newer c

around_depends : (n : ℕ) (slot : Slot) (words : List ℕ) (epoch : ℕ) (at : LogPosition) (newer : List Change) → at.blocks ≡ n → at.epoch ≡ epoch + 1 → DependsOn (InAround n slot epoch) (LiesAround n slot words epoch at newer)
around_depends n slot words epoch at newer in_n in_epoch c d whole_c whole_d agrees around =
    let base_is : base_at at ≡ base_of n (epoch + 1) = ap (λ (m : ℕ). base_of m at.epoch) in_n ∙ ap (base_of n) in_epoch in
    let end = Leads-end c (base_at at) at.epoch 0 0 (payloads_of newer) at.place (omega arith) around.ready.ready.leads in
    record {
      disk = record { size = around.disk.size; whole = whole_d; long = subst (λ (m : ℕ). 8 * n ≤ m) (sym agrees.count) around.disk.long };
      formatted = bytes_at-same c d 0 8 (λ i from to. agrees.same i (inl (from, to))) ∙ around.formatted;
      map = HasMap-same n c d slot words (λ i from to. agrees.same i (inr (inl (from, to)))) around.map;
      none_later = no_later-same c d (base_of n epoch) epoch (λ i from to. agrees.same i (inr (inr (inl (from, omega (arith, to)))))) around.none_later;
      ready = record {
        count = around.ready.count;
        ready = ready-same c d (base_at at) at.epoch at.place (payloads_of newer) (λ i from to. agrees.same i (inr (inr (inr (omega (arith, from, base_is), omega (arith, to, base_is, end)))))) around.ready.ready;
      };
    }

-- the stage after one before the last has a step
pub next_within : (w : Work) (stage : Stage) → IsWhole w → IsWithin w stage → IsBeforeOpening stage → IsWithin w (next_stage w stage)
next_within w stage whole within before = stage_goes_on w (next_stage w stage) (stage_next w stage whole within) (never stage before)
  where
    block_not_done : (b : Bool) (k : ℕ) → (if b then Blocks k else MapBlocks 0) ≡ Done → ⊥
    block_not_done true k is = absurd cc
    block_not_done false k is = absurd cc

    map_not_done : (b : Bool) (k : ℕ) (gate : Gate) → (if b then MapBlocks k else with_map gate) ≡ Done → ⊥
    map_not_done true k gate is = absurd cc
    map_not_done false k Open is = absurd cc
    map_not_done false k Closed is = absurd cc

    never : (stage : Stage) → IsBeforeOpening stage → next_stage w stage ≡ Done → ⊥
    never (Blocks k) before is = block_not_done (nat_lt (k + 1) (length w.plan.blocks)) (k + 1) is
    never (MapBlocks k) before is = map_not_done (nat_lt (k + 1) (map_blocks w.blocks)) (k + 1) w.gate is
    never Stored before is = absurd cc
    never Shut before is = absurd cc
    never Bodied before is = absurd before
    never Done before is = absurd before

module _ {live : Tree} (h : Held) (world : World) (p : Progress) (ro : RunsTo h world live p) where
  abbrev pub n : ℕ
  n = h.at.blocks

  abbrev pub w : Work
  w = p.work

  abbrev pub r : Runs h world
  r = ro.runs

  abbrev pub q : LeadsTo h world r live p
  q = ro.point

  pub lie : LieInData n (all_reach r.store r.root)
  lie = lies_in_data n r.store r.root (slice_index r.words) r.stands.sound

  around_now : Always h.disk (LiesAround n r.slot r.words r.root.epoch h.at r.newer)
  around_now c crash = record {
    disk = disk_always n h.disk r.stands.disk c crash;
    formatted = r.formatted c crash;
    map = r.stands.map c crash;
    none_later = q.none_later c crash;
    ready = q.ready c crash;
  }

  epoch_least : r.root.epoch + 2 < 256 ^ 8
  epoch_least = let fits = (Always-reads h.disk (Shows n r.store r.slot r.root r.older r.newer) r.stands.disk.whole r.stands.shows).shown.newest.body.fits.epoch.most in omega (arith, fits)

  pub one_on : r.root.epoch + 1 < 256 ^ 8
  one_on = let more = epoch_least in omega (arith, more)

  -- neither half begins with a record of an epoch after the next one
  pub none_behind : (bound : ℕ) → r.root.epoch + 1 ≤ bound → (c : Contents) → LiesAround n r.slot r.words r.root.epoch h.at r.newer c → (epoch : ℕ) → HasNoLater c (base_of n epoch) bound
  none_behind bound less c around = each_half n r.root.epoch (λ (b : ℕ). HasNoLater c b bound)
      (later_weaker c (base_of n r.root.epoch) r.root.epoch bound (omega (arith, less)) around.none_later)
      (ready_no_later n c h.at r.newer (r.root.epoch + 1) bound around.disk refl q.epoch less one_on around.ready)

  -- where the old root is shown with its records and those after them, the contents are an image of the settled world
  pub old_image : (c : Contents) → LiesAround n r.slot r.words r.root.epoch h.at r.newer c → Shows n r.store r.slot r.root r.older r.newer c → IsImage c (settle world)
  old_image c around shows =
      image_shown n r.store r.slot r.root r.words r.older r.newer (settle world) r.older_spelled r.newer_spelled r.stands.sound (stands_for h world r) (fits_now h world r) r.age c around.disk around.formatted around.map
      (none_behind (r.root.epoch + 1) (omega arith) c around) shows

  -- the point writes outside the old root
  pub beside : ShowsBeside w r.store r.slot r.root r.older r.newer r.newer [] h.disk
  beside =
      ordinary_show w r.store r.slot r.root r.older r.newer h.disk
      (record { other = q.of.slot; later = q.of.built.later; lie = subst (λ (m : ℕ). LieInData m (all_reach r.store r.root)) (sym q.of.blocks) lie; apart = q.of.built.apart })
      q.of.follows.epoch epoch_least
      (subst (λ (m : ℕ). Always h.disk (Shows m r.store r.slot r.root r.older r.newer)) (sym q.of.blocks) r.stands.shows)
      (subst (λ (m : ℕ). Always h.disk (λ c. HasNoLater c (base_of m r.root.epoch) r.root.epoch)) (sym q.of.blocks) q.none_later)

  -- where nothing was written but by steps of the point
  module _ (d : Disk) (touched : Touches (InPoint w) h.disk d) where
    pub around_stays : LeavesOnly h.disk d (LiesAround n r.slot r.words r.root.epoch h.at r.newer)
    around_stays =
        LeavesOnly-touched (InPoint w) (InAround n r.slot r.root.epoch) (LiesAround n r.slot r.words r.root.epoch h.at r.newer) (around_depends n r.slot r.words r.root.epoch h.at r.newer refl q.epoch)
        (λ i is around. subst (λ (m : ℕ). AreDisjoint (InPoint w) (InAround m r.slot r.root.epoch)) q.of.blocks (stays_apart w q.of.whole r.slot q.of.slot r.root.epoch) i is around)
        h.disk d r.stands.disk.whole around_now touched

    pub around_then : Always d (LiesAround n r.slot r.words r.root.epoch h.at r.newer)
    around_then = LeavesOnly-now h.disk d (LiesAround n r.slot r.words r.root.epoch h.at r.newer) around_stays

  module _ (result : Result (Unit {0}) Fault) (d : Disk) (whole : AreSectors (reads d)) (step : StepsTo w p.stage result h.disk d) where
    pub in_point : Touches (InPoint w) h.disk d
    in_point = Touches-within (InStep w p.stage) (InPoint w) h.disk d (λ i is. record { stage = p.stage; within = q.within; of_step = is }) step.touched

    module _ (before : IsBeforeOpening p.stage) where
      stays : LeavesOnly h.disk d (LiesAround n r.slot r.words r.root.epoch h.at r.newer)
      stays = around_stays d in_point

      around_behind : Always d (LiesAround n r.slot r.words r.root.epoch h.at r.newer)
      around_behind = around_then d in_point

      keeps : LeavesOnly h.disk d (Shows w.blocks r.store r.slot r.root r.older r.newer) × ShowsBeside w r.store r.slot r.root r.older r.newer r.newer [] d
      keeps = steps_keep w q.of.whole r.store r.slot r.root r.older r.newer r.newer [] result h.disk d r.stands.disk.whole beside p.stage q.within before step

      pub step_leaves : LeavesOnly h.disk d (λ c. IsImage c (settle world))
      step_leaves = record {
        follows = keeps.0.follows;
        each = λ c since. old_image c (stays.each c since) (subst (λ (m : ℕ). Shows m r.store r.slot r.root r.older r.newer c) q.of.blocks (keeps.0.each c since));
      }

      then_runs : Runs (record h { disk = d }) world
      then_runs = record {
        is = r.is;
        store = r.store;
        slot = r.slot;
        root = r.root;
        words = r.words;
        older = r.older;
        newer = r.newer;
        older_spelled = r.older_spelled;
        newer_spelled = r.newer_spelled;
        limits = r.limits;
        formatted = λ c crash. (around_behind c crash).formatted;
        stands = record {
          disk = Always-reads d (IsDisk n) whole (λ c crash. (around_behind c crash).disk);
          shows = subst (λ (m : ℕ). Always d (Shows m r.store r.slot r.root r.older r.newer)) q.of.blocks (LeavesOnly-now h.disk d (Shows w.blocks r.store r.slot r.root r.older r.newer) keeps.0);
          map = λ c crash. (around_behind c crash).map;
          sound = r.stands.sound;
        };
        none_later = λ epoch c crash. none_behind (r.root.epoch + 1) (omega arith) c (around_behind c crash) epoch;
        log = inr (q.epoch, λ c crash. (around_behind c crash).ready);
        cover = r.cover;
        charged = r.charged;
        age = r.age;
        frozen = r.frozen;
      }

      then_on : StandsAtStage w (next_stage w p.stage) d → RunsTo (record h { disk = d }) world live (record p { stage = next_stage w p.stage })
      unfolding then_runs
      then_on stands = record {
        runs = then_runs;
        point = record {
          of = q.of;
          within = next_within w p.stage q.of.whole q.within before;
          stands = stands;
          epoch = q.epoch;
          ready = λ c crash. (around_behind c crash).ready;
          none_later = λ c crash. (around_behind c crash).none_later;
          cover = q.cover;
          charged = q.charged;
          takes = q.takes;
          slot = q.slot;
          root = q.root;
          changed = q.changed;
          tree = q.tree;
        };
      }

      pub step_goes_on : OnOk result (RunsTo (record h { disk = d }) world live (record p { stage = next_stage w p.stage }))
      step_goes_on = OnOk-then result then_on step.next
