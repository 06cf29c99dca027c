-- What a whole point makes of a mount, and what it costs.
use Rattle.std.proofs.Common.{◌≡◌, ◌⊎◌, inl, ℕ, zero, suc, ◌+◌, ◌*◌, ◌<◌, ◌≤◌, ◌==◌, if◌then◌else◌, Bool, true, false, List, [], ◌∷◌, Option, Some, None, length, map, All, Contains, Result, Ok, Err, IsTrue, refl, sym, ap, subst, ◌∙◌, arith}
use Rattle.std.specs.FinMap as fin
use Rattle.std.specs.Prelude.{MatchBool}
use Rattle.std.specs.List.Sorted.{IsStrictlyIncreasing}
use Rattle.std.proofs.lemmas.Bool.{eqb-true}
use Rattle.sn_alloc.specs.Taking.{free_data}
use Rattle.sn_block.specs.Counts.{CountsCalls, IsLater, called}
use Rattle.sn_block.specs.declared.fault.ReadFault.{ReadFault}
use Rattle.sn_block.proofs.CountLemmas.{called-after, later-calls, later-is, later-join, later-same}
use Rattle.sn_device.specs.Crash.{LeavesOnly, Touches}
use Rattle.sn_device.specs.Disk.{Always, Disk, IsSynced, reads}
use Rattle.sn_device.specs.Sectors.{AreSectors, Contents}
use Rattle.sn_device.specs.Status.{has_ended, one_failure}
use Rattle.sn_device.specs.declared.status.Status.{Status}
use Rattle.sn_device.proofs.CrashLemmas.{Always-synced, LeavesOnly-join, LeavesOnly-start, LeavesOnly-weaker, Touches-present}
use Rattle.sn_layout.specs.declared.gate.Gate.{Gate}
use Rattle.sn_layout.specs.declared.gate.Gate.TheVariants.{Open, Closed}
use Rattle.sn_layout.specs.declared.geometry.Area.TheVariants.{Data}
use Rattle.sn_layout.specs.declared.geometry.Slot.{Slot}
use Rattle.sn_layout.specs.declared.root.RootBody.{RootBody}
use Rattle.sn_layout.specs.declared.tree.BlockTree.{BlockTree}
use Rattle.sn_layout.specs.Gate.{gate_of}
use Rattle.sn_layout.specs.Geometry.{IsDiskSize, gate_sector, map_blocks, other_slot, start_of}
use Rattle.sn_layout.specs.RootBody.{IsRootBody}
use Rattle.sn_limits.specs.declared.limits.Limits.{Limits}
use Rattle.sn_log.specs.Positions.{LogPosition, first_of}
use Rattle.sn_model.specs.declared.outcome.AskedPoint.{AskedPoint}
use Rattle.sn_model.specs.declared.outcome.AskedPoint.TheVariants.{Unasked, Plain, Freezes, Thaws, Restores}
use Rattle.sn_model.specs.Settling.{nameless_in, settle}
use Rattle.sn_model.specs.Steps.{pointed, restored}
use Rattle.sn_model.specs.Tree.{Tree}
use Rattle.sn_model.specs.World.{World, trees_of}
use Rattle.sn_ondisk.specs.LogHalf.{InHalf, base_of}
use Rattle.sn_ondisk.specs.Trees.{Store, store_of}
use Rattle.sn_opening.specs.Points.{Written}
use Rattle.sn_overlay.specs.Layers.{Layer}
use Rattle.sn_overlay.specs.Overlays.{no_changes}
use Rattle.sn_held.specs.Rooms.{RoomCounts, begun as begun_room, dropping, fresh}
use Rattle.sn_root.specs.declared.following.PointKind.{PointKind}
use Rattle.sn_root.specs.declared.following.PointKind.TheVariants.{Ordinary}
use Rattle.sn_root.specs.Replacing.{closing_writes}
use Rattle.sn_root.specs.Slots.{gate_in}
use Rattle.sn_root.proofs.ReplacingLemmas.{log_and_gate}
use Rattle.sn_held.specs.Held.{Going, Held, Kept, RunsReady}
use Rattle.sn_held.specs.Images.{IsImage}
use Rattle.sn_sound.specs.Logs.{HasAgeLeft}
use Rattle.sn_held.proofs.EventLemmas.{runs_show}
use Rattle.sn_tree.specs.declared.new_block.NewBlock.{NewBlock}
use Rattle.sn_cp.specs.Beginning.{Begins}
use Rattle.sn_cp.specs.Counting.{root_steps, syncs_left, writes_left}
use Rattle.sn_cp.specs.Points.{Work, first_stage, stage_of, work_of, written_by}
use Rattle.sn_cp.specs.Steps.{IsWhole, IsWithin, StandsAtStage}
use Rattle.sn_cp.specs.declared.stage.Stage.{Stage}
use Rattle.sn_cp.specs.declared.stage.Stage.TheVariants.{Blocks, MapBlocks}
use Rattle.sn_cp_build.specs.Building.{IsWellBuilt}
use Rattle.sn_cp_build.specs.declared.edits.SnapshotEdit.{SnapshotEdit}
use Rattle.sn_cp_build.specs.declared.building.Built.{Built}
use Rattle.sn_cp_held.specs.Builds.{CanBeBuilt, CanBeBuiltOver, IsBuiltOf, over_layer, plan_of, room_behind, work_for}
use Rattle.sn_cp_held.specs.Snapshots.{BeginsFrom, KeepsLive, brought_back, live_behind, trees_behind}
use Rattle.sn_cp_held.specs.Wholes.{CanBeRestored, HasBegun, IsOfLive}
use Rattle.sn_cp_held.proofs.BuildLemmas.{numbers_same, place_all}
use Rattle.sn_cp_held.proofs.LiveLemmas.{can_be_built, of_live}
use Rattle.sn_cp_held.proofs.RestoreLemmas.{restore_can_be_built, restore_of_live}
use Rattle.sn_cp_held.proofs.WholeLemmas.{begin_leaves, has_begun}
use Rattle.sn_cp_progress.specs.Meaning.{EitherImage, progress_over}
use Rattle.sn_cp_progress.specs.Progress.{RunsTo, world_to}
use Rattle.sn_cp_progress.proofs.EndLemmas.{point_begins}
use Rattle.sn_cp_whole.specs.Asking.{CanBeMade}
use Rattle.sn_cp_whole.specs.Going.{BeginsTo, CostsBeginning, IsGoing, going_of, with_frozen}
use Rattle.sn_cp_whole.specs.Making.{CanBeAsked, CostsPoint, HasCauseFor, MakesPoint, most_syncs, most_writes, syncs_of_point, with_parts, writes_of_point}
use Rattle.sn_cp_whole.specs.Planning.{CanBeBuiltFor, HasCauseToStop, IsPlanned, IsSpellable, IsWholeBlock, kept_in}
use Rattle.sn_cp_whole.specs.declared.base.PointBase.{PointBase}
use Rattle.sn_cp_whole.specs.declared.fault.PointFault.{PointFault}
use Rattle.sn_cp_whole.specs.declared.going.GoingPoint.{GoingPoint}
use Rattle.sn_cp_whole.specs.declared.fault.PointFault.TheVariants as fault
use Rattle.sn_cp_whole.proofs.AskingLemmas.{asked_can, restored_can}

-- ---- what is planned

-- it is a point that can be made on any device
pub whole_work : {edit : SnapshotEdit} (n : ℕ) (limits : Limits) (words : List ℕ) (layer : Layer) (built : Built) (next : RootBody) (slot : Slot) (gate : Gate) → IsDiskSize n → length words ≡ n → IsWellBuilt n limits words layer edit built → IsSpellable built → IsRootBody next
    → IsWhole (record { blocks = n; slot = slot; gate = gate; plan = plan_of built next })
whole_work n limits words layer built next slot gate size count well spelled body = record {
  size = size;
  place = place_all n words count built.blocks.items well.free;
  once = subst IsStrictlyIncreasing (sym (numbers_same built.blocks.items)) well.rise;
  words = well.as_many ∙ count;
  fits = spelled.numbers;
  next = body;
}

-- whole blocks are written
pub whole_written : (xs : List NewBlock) → All IsWholeBlock xs → (b : Written) → Contains (map written_by xs) b → length b.1 ≡ 4096
whole_written [] all b (k, within, is) = absurd (omega (arith, within))
whole_written (x ∷ xs) all b (zero, within, is) = ap (λ (w : Written). length w.1) (sym is) ∙ all 0 x (omega arith)
whole_written (x ∷ xs) all b (suc k, within, is) = whole_written xs (λ i d inside. all (suc i) d (omega (arith, inside))) b (k, omega (arith, within), is)

-- the gate of a slot is as it was read, whatever a crash leaves after a beginning
pub gate_stays : (n epoch : ℕ) (slot : Slot) (gate : Gate) (old new : Disk) → Touches (InHalf (base_of n epoch)) old new → IsSynced new → gate_in (reads old) slot ≡ gate → Always new (λ c. gate_in c slot ≡ gate)
gate_stays n epoch slot gate old new touched synced is =
    Always-synced new (λ c. gate_in c slot ≡ gate) synced
    (ap (λ (s : List ℕ). gate_of s) ((Touches-present (InHalf (base_of n epoch)) old new touched).others.same (gate_sector slot) (λ inside. log_and_gate n epoch slot (gate_sector slot) inside refl)) ∙ is)

-- ---- what can be built

over_same : (n : ℕ) (s : Store) (k : Kept) (file : BlockTree) → file ≡ k.root.inode_file → CanBeBuilt n s k → CanBeBuiltOver n s k file 0
over_same n s k file is can = subst (λ (f : BlockTree). CanBeBuiltOver n s k f 0) (sym is) can

-- for a point that keeps the live tree what changed since its root can be built
pub kept_for : (n : ℕ) (s : Store) (k : Kept) (asked : AskedPoint) → KeepsLive asked → CanBeBuilt n s k → CanBeBuiltFor n s k asked
kept_for n s k Unasked keeps can bit file is = over_same n s k file is can
kept_for n s k Plain keeps can bit file is = over_same n s k file is can
kept_for n s k (Freezes name) keeps can bit file is = over_same n s k file is can
kept_for n s k (Thaws name) keeps can bit file is = over_same n s k file is can
kept_for n s k (Restores name) keeps can bit file among = absurd keeps

-- it begins from the live inode file
pub begins_live : (asked : AskedPoint) (bit : ℕ) (root : RootBody) (file : BlockTree) → KeepsLive asked → BeginsFrom asked bit root file → file ≡ root.inode_file
begins_live Unasked bit root file keeps is = is
begins_live Plain bit root file keeps is = is
begins_live (Freezes name) bit root file keeps is = is
begins_live (Thaws name) bit root file keeps is = is
begins_live (Restores name) bit root file keeps among = absurd keeps

-- and what can be asked for keeps it
pub keeps_live : (asked : AskedPoint) (world : World) → CanBeAsked asked world → KeepsLive asked
keeps_live Unasked world can = tt
keeps_live Plain world can = tt
keeps_live (Freezes name) world can = tt
keeps_live (Thaws name) world can = tt
keeps_live (Restores name) world can = can

-- what is planned is what a point is built from
pub planned_built : {Told : Type 0} (n : ℕ) (c : Contents) (kind : PointKind) (k : Kept) (asked : AskedPoint) (built : Built) (next : RootBody) (plans : IsPlanned Told n (store_of c) kind k asked built next) → Told → IsSpellable built → IsBuiltOf n c kind k plans.file asked plans.bit built next
planned_built n c kind k asked built next plans told spelled =
    let follows = plans.follows in
    record { begins = plans.begins; well = plans.well; builds = plans.builds told; numbers = spelled.numbers; whole = whole_written built.blocks.items spelled.whole; body = follows.body; is = follows.is; snapshots = follows.snapshots; age = follows.age }

-- ---- a point of a mount that is ready

module _ (h : Held) (world : World) (k : Kept) (rr : RunsReady h world k) where
  root_body : IsRootBody k.root → IsRootBody rr.runs.root
  root_body body = subst IsRootBody rr.ready.root body

  -- what can be asked over the world can be made of the snapshots of the root that is kept
  pub asked_made : (asked : AskedPoint) → IsRootBody k.root → CanBeAsked asked world → CanBeMade asked k.root.limits k.root.snapshots
  asked_made asked body can =
      subst (λ (r : RootBody). CanBeMade asked r.limits r.snapshots) (sym rr.ready.root) (asked_can asked world rr.runs.store rr.runs.root rr.runs.limits (root_body body) rr.runs.frozen can)

  pub restore_made : (name : List ℕ) (layer : Layer) → CanBeRestored name layer h.room world → CanBeMade (Restores name) k.root.limits k.root.snapshots
  restore_made name layer can =
      subst (λ (r : RootBody). CanBeMade (Restores name) r.limits r.snapshots) (sym rr.ready.root) (restored_can name can.tree world rr.runs.store rr.runs.root rr.runs.frozen can.frozen)

  pub asked_for : (asked : AskedPoint) → CanBeAsked asked world → CanBeBuiltFor h.at.blocks (store_of (reads h.disk)) k asked
  asked_for asked can = kept_for h.at.blocks (store_of (reads h.disk)) k asked (keeps_live asked world can) (can_be_built h world k rr)

  pub restore_for : (name : List ℕ) (layer : Layer) → CanBeRestored name layer h.room world → CanBeBuiltFor h.at.blocks (store_of (reads h.disk)) (over_layer layer k) (Restores name)
  restore_for name layer can bit file begins = restore_can_be_built h world k rr layer name can file bit begins

  -- nothing was written
  pub nothing_written : {T : Type 0} (asked : AskedPoint) (live : Tree) (any : Held) (kept : Kept) (result : Result T PointFault) (f : PointFault) (at : LogPosition) (d : Disk) → result ≡ Err f → d ≡ h.disk → (result ≡ Err fault.Damaged → ⊥) → BeginsTo live (Err f) asked world any kept at h.disk d
  nothing_written asked live any kept result fault.Memory at d is same never = same
  nothing_written asked live any kept result fault.Age at d is same never = same
  nothing_written asked live any kept result fault.Read at d is same never = same
  nothing_written asked live any kept result fault.Damaged at d is same never = never is
  nothing_written asked live any kept result fault.Device at d is same never =
      subst (λ (e : Disk). LeavesOnly h.disk e (λ c. IsImage c (settle world))) (sym same) (LeavesOnly-start h.disk (λ c. IsImage c (settle world)) (runs_show h world rr.runs))

  pub begins_leave : {T E : Type 0} (result : Result T E) (planned d : Disk) → planned ≡ h.disk → Begins h.at result planned d → LeavesOnly h.disk d (λ c. IsImage c (settle world))
  begins_leave result planned d same begins = begin_leaves h world rr.runs result d rr.ready.between (subst (λ (e : Disk). Begins h.at result e d) same begins)

  -- what is planned of the live tree is a point of it
  pub asked_live : {Told : Type 0} (asked : AskedPoint) → CanBeAsked asked world → (built : Built) (next : RootBody) (gate : Gate) → IsPlanned Told h.at.blocks (store_of (reads h.disk)) Ordinary k asked built next → Told → IsSpellable built
      → IsOfLive h world rr.runs asked (work_for h.at.blocks k gate built next) (room_behind h.at.blocks built)
  asked_live asked can built next gate plans told spelled =
      let keeps = keeps_live asked world can in
      of_live h world k rr gate asked plans.bit built next keeps
      (subst (λ (f : BlockTree). IsBuiltOf h.at.blocks (reads h.disk) Ordinary k f asked plans.bit built next) (begins_live asked plans.bit k.root plans.file keeps plans.begins)
      (planned_built h.at.blocks (reads h.disk) Ordinary k asked built next plans told spelled))

  -- and what is planned of a snapshot one that brings it back
  pub restore_live : {Told : Type 0} (name : List ℕ) (layer : Layer) (can : CanBeRestored name layer h.room world) → nameless_in can.tree ≤ h.room.dropped → (built : Built) (next : RootBody) (gate : Gate)
      → IsPlanned Told h.at.blocks (store_of (reads h.disk)) Ordinary (over_layer layer k) (Restores name) built next → Told → IsSpellable built
      → IsOfLive h world rr.runs (Restores name) (work_for h.at.blocks k gate built next) (room_behind h.at.blocks built)
  restore_live name layer can dropped built next gate plans told spelled =
      restore_of_live h world k rr layer name can plans.file plans.bit plans.begins dropped gate built next (planned_built h.at.blocks (reads h.disk) Ordinary (over_layer layer k) (Restores name) built next plans told spelled)

  module _ (asked : AskedPoint) (built : Built) (next : RootBody) (gate : Gate) (live : IsOfLive h world rr.runs asked (work_for h.at.blocks k gate built next) (room_behind h.at.blocks built))
      (planned begun : Disk) (same : planned ≡ h.disk) (begins : Begins {T = Unit {0}} {E = ReadFault} h.at (Ok (tt {0})) planned begun) (whole_begun : AreSectors (reads begun)) where
    abbrev work : Work
    work = work_for h.at.blocks k gate built next

    begins_here : Begins {T = Unit {0}} {E = ReadFault} h.at (Ok (tt {0})) h.disk begun
    begins_here = subst (λ (e : Disk). Begins {T = Unit {0}} {E = ReadFault} h.at (Ok (tt {0})) e begun) same begins

    has : HasBegun h world rr.runs begun
    has = has_begun h world rr.runs {T = Unit {0}} {E = ReadFault} (Ok (tt {0})) begun rr.ready.between begins_here

    -- the mount runs on with it in progress, which leads to the live tree that is asked for
    pub goes_on : (going : GoingPoint) (since : Layer) (at : LogPosition) (to : Tree) → live_behind asked (trees_of world) ≡ to → work_of going.point ≡ work → IsWithin (work_of going.point) (stage_of going.point) → StandsAtStage (work_of going.point) (stage_of going.point) begun
        → going.free ≡ free_data built.map (start_of h.at.blocks Data) → since ≡ no_changes → at ≡ first_of h.at.blocks (h.at.epoch + 1)
        → RunsTo (record h { room = begun_room h.room; at = at; base = record k { changed = since }; disk = begun }) world to (progress_over (going_of going) (trees_behind asked (trees_of world)))
    goes_on going since at to leads is within stands free none turned =
        let of = subst (λ (f : ℕ). IsOfLive h world rr.runs asked work (fresh f)) (sym free) live in
        let here = subst (λ (w : Work). IsOfLive h world rr.runs asked w (fresh going.free)) (sym is) of in
        let on = point_begins h world k rr asked (work_of going.point) going.free (stage_of going.point) begun here whole_begun has within stands in
        let epoch : first_of h.at.blocks (rr.runs.root.epoch + 1) ≡ at = ap (λ (e : ℕ). first_of h.at.blocks (e + 1)) (sym rr.ready.between.epoch) ∙ sym turned in
        subst (λ (t : Tree). RunsTo (record h { room = begun_room h.room; at = at; base = record k { changed = since }; disk = begun }) world t (progress_over (going_of going) (trees_behind asked (trees_of world)))) leads
        (subst (λ (x : LogPosition). RunsTo (record h { room = begun_room h.room; at = x; base = record k { changed = since }; disk = begun }) world (live_behind asked (trees_of world)) (progress_over (going_of going) (trees_behind asked (trees_of world)))) epoch
        (subst (λ (l : Layer). RunsTo (record h { room = begun_room h.room; at = first_of h.at.blocks (rr.runs.root.epoch + 1); base = record k { changed = l }; disk = begun }) world (live_behind asked (trees_of world)) (progress_over (going_of going) (trees_behind asked (trees_of world)))) (sym none) on))

    pub leaves : LeavesOnly h.disk begun (λ c. IsImage c (settle world))
    leaves = begins_leave {T = Unit {0}} {E = ReadFault} (Ok (tt {0})) planned begun same begins

-- an image of the world from before is one of either
at_first : (world after : World) (old new : Disk) → LeavesOnly old new (λ c. IsImage c (settle world)) → LeavesOnly old new (EitherImage world after)
at_first world after old new leaves = LeavesOnly-weaker old new (λ c. IsImage c (settle world)) (EitherImage world after) (λ c here. inl here) leaves

-- the world with the frozen trees of a point's root is the one that was asked for
abbrev pub world_after : AskedPoint → World → World
world_after asked world = with_frozen world (trees_behind asked (trees_of world)).frozen

pub world_asked : (asked : AskedPoint) (world : World) → CanBeAsked asked world → world_after asked world ≡ pointed asked world
world_asked Unasked world can = refl
world_asked Plain world can = refl
world_asked (Freezes name) world can = refl
world_asked (Thaws name) world can = refl
world_asked (Restores name) world can = absurd can

-- so is the one that a point leads to that brings a snapshot back
brought : (o : Option Tree) (world : World) → record world { live = brought_back o world.live } ≡ restored o world
brought None world = refl
brought (Some tree) world = refl

pub leads_back : (asked : AskedPoint) (name : List ℕ) (world : World) (going : Going) → asked ≡ Restores name → world_to (live_behind asked (trees_of world)) (progress_over going (trees_behind asked (trees_of world))) world ≡ pointed (Restores name) world
leads_back asked name world going is =
    (λ i. world_to (live_behind (is i) (trees_of world)) (progress_over going (trees_behind (is i) (trees_of world))) world)
    ∙ brought (fin.get world.frozen name) world

-- the beginning of a whole point and its steps, one after the other
pub joined : (world after next : World) → after ≡ next → (old begun new : Disk) → LeavesOnly old begun (λ c. IsImage c (settle world)) → LeavesOnly begun new (EitherImage world after) → LeavesOnly old new (EitherImage world next)
joined world after next is old begun new first rest =
    LeavesOnly-join old begun new (EitherImage world next) (at_first world next old begun first)
    (subst (λ (w : World). LeavesOnly begun new (EitherImage world w)) is rest)

-- a mount is ready too where more of its files are counted that were dropped
pub with_dropped : (h : Held) (world : World) (k : Kept) (count : ℕ) → RunsReady h world k → RunsReady (record h { room = dropping count h.room }) world k
with_dropped h world k count rr =
    let r = rr.runs in
    let q = rr.ready in
    record {
      runs = record {
        is = r.is;
        store = r.store;
        slot = r.slot;
        root = r.root;
        words = r.words;
        older = r.older;
        newer = r.newer;
        older_spelled = r.older_spelled;
        newer_spelled = r.newer_spelled;
        limits = r.limits;
        formatted = r.formatted;
        stands = r.stands;
        none_later = r.none_later;
        log = r.log;
        cover = r.cover;
        charged = record { free = r.charged.free; charged = r.charged.charged; parked = omega (arith, r.charged.parked); fits = r.charged.fits };
        age = r.age;
        frozen = r.frozen;
      };
      ready = record {
        between = record { none_newer = q.between.none_newer; epoch = q.between.epoch; ready = q.between.ready; synced = q.between.synced };
        slot = q.slot;
        root = q.root;
        words = q.words;
        changed = q.changed;
        tree = q.tree;
      };
    }

-- it can be restored as before
abbrev pub dropped_can : (name : List ℕ) (layer : Layer) (room : RoomCounts) (world : World) (count : ℕ) → CanBeRestored name layer room world → CanBeRestored name layer (dropping count room) world
dropped_can name layer room world count can = record { tree = can.tree; frozen = can.frozen; drops = can.drops; fits = can.fits }

-- what was refused before it began is refused of a whole point, and what failed has failed
pub refused : (f : PointFault) (live : Tree) (asked : AskedPoint) (world : World) (h : Held) (at whole_at : LogPosition) (room : RoomCounts) (old new : Disk) (before k : Kept) → BeginsTo live (Err f) asked world h before at old new → MakesPoint (Err f) asked world old (with_parts h whole_at room new) k
refused fault.Memory live asked world h at whole_at room old new before k same = same
refused fault.Age live asked world h at whole_at room old new before k same = same
refused fault.Read live asked world h at whole_at room old new before k same = same
refused fault.Damaged live asked world h at whole_at room old new before k never = never
refused fault.Device live asked world h at whole_at room old new before k leaves = at_first world (pointed asked world) old new leaves

pub written_count : (xs : List NewBlock) → length (map written_by xs) ≡ length xs
written_count [] = refl
written_count (x ∷ xs) = omega (arith, written_count xs)

-- what is planned is what is in progress
pub is_going : {Told : Type 0} (s : Store) (n m : ℕ) (base : PointBase) (changed : Layer) (asked : AskedPoint) (built : Built) (next : RootBody) (slot : Slot) (gate : Gate) (going : GoingPoint) → m ≡ n → IsDiskSize m → length base.map ≡ m → IsPlanned Told m s Ordinary (kept_in base changed) asked built next → IsSpellable built
    → slot ≡ other_slot base.slot → work_of going.point ≡ record { blocks = m; slot = slot; gate = gate; plan = plan_of built next } → stage_of going.point ≡ first_stage (length built.blocks.items)
    → IsWithin (work_of going.point) (stage_of going.point) → going.free ≡ free_data built.map (start_of m Data) → IsGoing n base changed going
is_going s n m base changed asked built next slot gate going in_n size count plans spelled other is first within free =
    let made : Work = record { blocks = m; slot = slot; gate = gate; plan = plan_of built next } in
    record {
      whole = subst IsWhole (sym is) (whole_work m base.root.limits base.map changed built next slot gate size count plans.well spelled plans.follows.body);
      within = within;
      first = first ∙ ap first_stage (sym (ap (λ (w : Work). length w.plan.blocks) is ∙ written_count built.blocks.items));
      blocks = ap (λ (w : Work). w.blocks) is ∙ in_n;
      slot = sym (ap (λ (w : Work). w.slot) is ∙ other);
      follows = record { generation = ap (λ (w : Work). w.plan.next.generation) is ∙ ap (λ (r : RootBody). r.generation) plans.follows.is; epoch = ap (λ (w : Work). w.plan.next.epoch) is ∙ ap (λ (r : RootBody). r.epoch) plans.follows.is; limits = ap (λ (w : Work). w.plan.next.limits) is ∙ ap (λ (r : RootBody). r.limits) plans.follows.is };
      age = subst (λ (w : Work). HasAgeLeft w.plan.next) (sym is) plans.follows.age;
      few = omega (arith, ap (λ (w : Work). length w.plan.blocks) is, written_count built.blocks.items, plans.well.few);
      free = free ∙ ap (free_data built.map) (ap (λ (b : ℕ). start_of b Data) in_n) ∙ ap (λ (w : Work). free_data w.plan.words (start_of n Data)) (sym is);
    }

-- ---- what it costs

pub first_writes : (w : Work) → writes_left w (first_stage (length w.plan.blocks)) ≡ 8 * length w.plan.blocks + 8 * map_blocks w.blocks + (closing_writes w.gate + 9)
first_writes w = told (length w.plan.blocks == 0) refl
  where
    told : (none : Bool) → (length w.plan.blocks == 0) ≡ none → writes_left w (if none then MapBlocks 0 else Blocks 0) ≡ 8 * length w.plan.blocks + 8 * map_blocks w.blocks + (closing_writes w.gate + 9)
    told true e = let none = eqb-true (length w.plan.blocks) 0 e in omega (arith, none)
    told false e = omega arith

pub first_syncs : (w : Work) → syncs_left w (first_stage (length w.plan.blocks)) ≡ root_steps w.gate + 1
first_syncs w = told (length w.plan.blocks == 0)
  where
    told : (none : Bool) → syncs_left w (if none then MapBlocks 0 else Blocks 0) ≡ root_steps w.gate + 1
    told true = refl
    told false = refl

pub few_closing : (gate : Gate) → closing_writes gate ≤ 1
few_closing Open = omega arith
few_closing Closed = omega arith

pub few_steps : (gate : Gate) → root_steps gate ≤ 3
few_steps Open = omega arith
few_steps Closed = omega arith

-- none was planned: nothing was called but a read that failed
abbrev CallsNothing : Status → Status → Type 0
CallsNothing old new = IsLater old new × (new.writes ≡ old.writes) × (new.syncs ≡ old.syncs)

same_status : (old new : Status) → new ≡ old → CallsNothing old new
same_status old new same = (later-same old new same, ap (λ (s : Status). s.writes) same, ap (λ (s : Status). s.syncs) same)

failed_status : (ended : Bool) (old new : Status) → MatchBool ended (new ≡ old) (new ≡ one_failure old) → CallsNothing old new
failed_status true old new same = same_status old new same
failed_status false old new is = (
  subst (IsLater old) (sym is) (record { sectors = refl; failures = omega arith; writes = omega arith; syncs = omega arith; spent = λ spent. spent }),
  ap (λ (s : Status). s.writes) is,
  ap (λ (s : Status). s.syncs) is,
)

pub calls_nothing : (f : PointFault) (old new : Status) → HasCauseToStop f old new → IsLater old new × (new.writes ≡ old.writes) × (new.syncs ≡ old.syncs)
calls_nothing fault.Memory old new same = same_status old new same
calls_nothing fault.Age old new same = same_status old new same
calls_nothing fault.Read old new fails = failed_status (has_ended old) old new fails
calls_nothing fault.Damaged old new same = same_status old new same
calls_nothing fault.Device old new none = absurd none

pub has_cause : (f : PointFault) (old new : Status) → HasCauseToStop f old new → HasCauseFor f old new
has_cause fault.Memory old new same = same
has_cause fault.Age old new same = same
has_cause fault.Read old new fails = fails
has_cause fault.Damaged old new same = same
has_cause fault.Device old new none = absurd none

pub unplanned : {T : Type 0} (f : PointFault) (old new : Status) → HasCauseToStop f old new → CostsBeginning {T = T} (Err f) old new
unplanned f old new why =
    let nothing = calls_nothing f old new why in
    record { done = tt; later = nothing.0; writes = omega (arith, nothing.1); syncs = omega (arith, nothing.2); cause = has_cause f old new why }

-- or it has begun
pub begun_costs : {A : Type 0} (x : A) (old planned new : Status) → planned ≡ old → new ≡ called 1 1 planned → CostsBeginning (Ok x) old new
begun_costs x old planned new same done =
    let one = done ∙ ap (called 1 1) same in
    record { done = one; later = later-is 1 1 old new one; writes = omega (arith, ap (λ (s : Status). s.writes) one); syncs = omega (arith, ap (λ (s : Status). s.syncs) one); cause = tt }

-- a whole point that hasn't begun costs no more than one
pub unbegun_costs : {T A : Type 0} (result : Result T PointFault) (f : PointFault) (n most : ℕ) (old new : Status) → result ≡ Err f → CostsBeginning result old new → CostsPoint {T = A} (Err f) n most old new
unbegun_costs {T} {A} result f n most old new is costs =
    let failed : CostsBeginning {T = T} (Err f) old new = subst (λ (r : Result T PointFault). CostsBeginning r old new) is costs in
    record { done = tt; later = failed.later; writes = omega (arith, failed.writes); syncs = omega (arith, failed.syncs); cause = failed.cause }

-- its steps were made, or were cut off
module _ (n most : ℕ) (w : Work) (stage : Stage) (size : w.blocks ≡ n) (first : stage ≡ first_stage (length w.plan.blocks)) (few : length w.plan.blocks ≤ most) (old begun new : Status) (begins : begun ≡ called 1 1 old)
    {T E : Type 0} (result : Result T E) (counts : CountsCalls (writes_left w stage) (syncs_left w stage) result begun new) where
  left_writes : writes_left w stage ≡ 8 * length w.plan.blocks + 8 * map_blocks n + (closing_writes w.gate + 9)
  left_writes = ap (writes_left w) first ∙ first_writes w ∙ ap (λ (m : ℕ). 8 * length w.plan.blocks + 8 * map_blocks m + (closing_writes w.gate + 9)) size

  left_syncs : syncs_left w stage ≡ root_steps w.gate + 1
  left_syncs = ap (syncs_left w) first ∙ first_syncs w

  later : IsLater old new
  later = later-join old begun new (later-is 1 1 old begun begins) (later-calls (writes_left w stage) (syncs_left w stage) result begun new counts)

  writes : new.writes ≤ old.writes + most_writes n most
  writes = omega (arith, counts.writes.1, ap (λ (s : Status). s.writes) begins, left_writes, few, few_closing w.gate)

  syncs : new.syncs ≤ old.syncs + most_syncs
  syncs = omega (arith, counts.syncs.1, ap (λ (s : Status). s.syncs) begins, left_syncs, few_steps w.gate)

  pub unfinished_costs : {A : Type 0} → (begun.failures < new.failures) ⊎ IsTrue (has_ended new) → CostsPoint {T = A} (Err fault.Device) n most old new
  unfinished_costs cause = record {
    done = tt;
    later = later;
    writes = writes;
    syncs = syncs;
    cause = subst (λ (m : ℕ). (m < new.failures) ⊎ IsTrue (has_ended new)) (ap (λ (s : Status). s.failures) begins) cause;
  }

  pub finished_costs : {A : Type 0} (x : A) → new ≡ called (writes_left w stage) (syncs_left w stage) begun → CostsPoint (Ok x) n most old new
  finished_costs x done =
      let all_writes : 1 + writes_left w stage ≡ writes_of_point n w.gate (length w.plan.blocks) = omega (arith, left_writes) in
      let all_syncs : 1 + syncs_left w stage ≡ syncs_of_point w.gate = omega (arith, left_syncs) in
      record {
        done = (length w.plan.blocks, few, w.gate, called-after 1 1 (writes_left w stage) (syncs_left w stage) old begun new begins done ∙ (λ i. called (all_writes i) (all_syncs i) old));
        later = later;
        writes = writes;
        syncs = syncs;
        cause = tt;
      }
