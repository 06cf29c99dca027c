-- What a point makes of a disk on which a mount has replayed something, where points write, and what their steps cost.
use Rattle.std.proofs.Common.{◌≡◌, ◌⊎◌, inl, inr, ℕ, zero, suc, ◌+◌, ◌*◌, ◌<◌, ◌≤◌, List, [], ◌∷◌, length, slice_index, Result, Ok, Err, IsTrue, refl, sym, ap, subst, ◌∙◌, arith}
use Rattle.std.specs.Prelude.{OnOk}
use Rattle.std.specs.List.Sorted.{IsStrictlyIncreasing}
use Rattle.sn_block.specs.Counts.{CountsCalls, IsLater, called}
use Rattle.sn_block.proofs.CountLemmas.{later-calls, later-join, later-same}
use Rattle.sn_device.specs.Crash.{LeavesOnly, Touches}
use Rattle.sn_device.specs.Disk.{Disk, reads}
use Rattle.sn_device.specs.Sectors.{AreSectors, Single, Union}
use Rattle.sn_device.specs.Status.{has_ended}
use Rattle.sn_device.specs.declared.status.Status.{Status}
use Rattle.sn_device.proofs.CrashLemmas.{Always-synced, LeavesOnly-start, Touches-join, Touches-start, Touches-within}
use Rattle.sn_layout.specs.declared.gate.Gate.{Gate}
use Rattle.sn_layout.specs.declared.gate.Gate.TheVariants.{Open, Closed}
use Rattle.sn_layout.specs.declared.geometry.Slot.{Slot}
use Rattle.sn_layout.specs.declared.geometry.Slot.TheVariants.{A, B}
use Rattle.sn_layout.specs.declared.root.RootBody.{RootBody}
use Rattle.sn_layout.specs.declared.tree.BlockTree.{BlockTree}
use Rattle.sn_layout.specs.Geometry.{gate_sector, half_of_epoch, map_blocks, other_slot}
use Rattle.sn_limits.specs.declared.limits.Limits.{Limits}
use Rattle.sn_log.specs.Positions.{LogPosition}
use Rattle.sn_model.specs.declared.outcome.AskedPoint.TheVariants.{Plain}
use Rattle.sn_model.specs.World.{World}
use Rattle.sn_ondisk.specs.Blocks.{InBlock}
use Rattle.sn_ondisk.specs.LogHalf.{InHalf, base_of}
use Rattle.sn_ondisk.specs.Roots.{body_block}
use Rattle.sn_ondisk.specs.Trees.{store_of}
use Rattle.sn_ondisk.proofs.PlaceLemmas.{areas_apart, half_from}
use Rattle.sn_overlay.specs.Layers.{Layer}
use Rattle.sn_root.specs.Replacing.{InClosing, closing_writes}
use Rattle.sn_root.specs.declared.following.PointKind.TheVariants.{Recovery}
use Rattle.sn_held.specs.Held.{Kept}
use Rattle.sn_held.specs.Images.{IsImage}
use Rattle.sn_tree.specs.Drafts.{numbers_of}
use Rattle.sn_tree.specs.declared.new_block.NewBlock.{NewBlock}
use Rattle.sn_cp.specs.Beginning.{Begins}
use Rattle.sn_cp.specs.Counting.{syncs_left, writes_left}
use Rattle.sn_cp.specs.Points.{Work, first_stage}
use Rattle.sn_cp.specs.Showing.{Finishes, InPoint}
use Rattle.sn_cp.specs.Steps.{InStep, IsWhole, IsWithin}
use Rattle.sn_cp.specs.declared.stage.Stage.{Stage}
use Rattle.sn_cp.specs.declared.stage.Stage.TheVariants.{Blocks, MapBlocks, Stored, Shut, Bodied, Done}
use Rattle.sn_cp.proofs.AroundLemmas.{stays_apart}
use Rattle.sn_cp.proofs.FrameLemmas.{body_low, gate_low, map_start}
use Rattle.sn_cp.proofs.StepLemmas.{lies_at}
use Rattle.sn_cp_build.specs.Building.{IsWellBuilt}
use Rattle.sn_cp_build.specs.declared.edits.SnapshotEdit.{SnapshotEdit}
use Rattle.sn_cp_build.specs.declared.building.Built.{Built}
use Rattle.sn_cp_held.specs.Builds.{CanBeBuilt, IsBuiltOf, plan_of, work_for}
use Rattle.sn_cp_held.specs.Recovering.{HasReplayed, IsRecovered}
use Rattle.sn_cp_held.specs.Wholes.{kept_behind}
use Rattle.sn_cp_held.proofs.LiveLemmas.{kept_can_be_built}
use Rattle.sn_cp_held.proofs.RecoverLemmas.{recovered, recovery_leaves, replayed_stands}
use Rattle.sn_cp_whole.specs.Planning.{HasCauseToStop, IsPlanned, IsSpellable}
use Rattle.sn_cp_whole.specs.Recovering.{CostsSteps, IsApart, IsImageOver, MakesRecovery, syncs_of_steps, writes_of_steps}
use Rattle.sn_cp_whole.specs.declared.fault.PointFault.{PointFault}
use Rattle.sn_cp_whole.specs.declared.fault.PointFault.TheVariants as fault
use Rattle.sn_cp_whole.proofs.PointLemmas.{calls_nothing, few_closing, few_steps, first_syncs, first_writes, has_cause, planned_built, written_count}

-- ---- what it makes of an image

module _ (old : Disk) (world : World) (im : IsImage (reads old) world) (k : Kept) (r : HasReplayed old world im k) where
  -- nothing was written
  pub nothing_recovered : {T : Type 0} (result : Result T PointFault) (f : PointFault) (n : ℕ) (d : Disk) → result ≡ Err f → d ≡ old → (result ≡ Err fault.Damaged → CanBeBuilt im.blocks (store_of (reads old)) k → ⊥) → MakesRecovery (Err f) n world old d
  nothing_recovered result fault.Memory n d is same readable = same
  nothing_recovered result fault.Age n d is same readable = same
  nothing_recovered result fault.Read n d is same readable = same
  nothing_recovered result fault.Damaged n d is same readable = readable is (kept_can_be_built im.blocks (reads old) world k (replayed_stands old old world im k r))
  nothing_recovered result fault.Device n d is same readable =
      subst (λ (e : Disk). LeavesOnly old e (λ c. IsImage c world)) (sym same)
      (LeavesOnly-start old (λ c. IsImage c world) (Always-synced old (λ c. IsImage c world) r.synced im))

  module _ {Told : Type 0} (built : Built) (next : RootBody) (gate : Gate) (plans : IsPlanned Told im.blocks (store_of (reads old)) Recovery k Plain built next) (told : Told) (spelled : IsSpellable built) where
    is_built : IsBuiltOf im.blocks (reads old) Recovery k k.root.inode_file Plain 0 built next
    is_built =
        let made = planned_built im.blocks (reads old) Recovery k Plain built next plans told spelled in
        let here = subst (λ (f : BlockTree). IsBuiltOf im.blocks (reads old) Recovery k f Plain plans.bit built next) plans.begins made in
        record { begins = here.begins; well = here.well; builds = here.builds; numbers = here.numbers; whole = here.whole; body = here.body; is = here.is; snapshots = here.snapshots; age = here.age }

    abbrev work : Work
    work = work_for im.blocks k gate built next

    module _ (planned d : Disk) (same : planned ≡ old) (whole : AreSectors (reads d)) {T E : Type 0} (result : Result T E) (w : Work) (is : w ≡ work) (finishes : Finishes w result planned d) where
      finishes_here : Finishes work result old d
      finishes_here = subst (λ (x : Work). Finishes x result old d) is (subst (λ (e : Disk). Finishes w result e d) same finishes)

      pub leaves_image : LeavesOnly old d (λ c. IsImage c world)
      leaves_image = recovery_leaves old d world im k r gate built next is_built result whole finishes_here

      pub is_recovered : OnOk result (IsRecovered d world work)
      is_recovered = recovered old d world im k r gate built next is_built result whole finishes_here

-- what is kept of it is the point's
pub image_over : (d : Disk) (world : World) (w : Work) (n : ℕ) (k : Kept) → w.blocks ≡ n → kept_behind w ≡ k → IsRecovered d world w → IsImageOver d world n k
image_over d world w n k blocks is r =
    subst (λ (x : Kept). IsImageOver d world n x) is (record {
      live = r.live;
      image = r.image;
      blocks = r.blocks ∙ blocks;
      slot = r.slot;
      root = r.root;
      words = r.words;
      older = r.older;
      newer = r.newer;
      synced = r.synced;
    })

-- ---- where it writes

gate_beside : (slot : Slot) (i : ℕ) → Single (gate_sector (other_slot slot)) i → Union (InBlock (body_block slot)) (Single (gate_sector slot)) i → ⊥
gate_beside A i is (inl body) = omega (arith, is, body.1)
gate_beside A i is (inr gate) = omega (arith, is, gate)
gate_beside B i is (inl body) = omega (arith, is, body.1)
gate_beside B i is (inr gate) = omega (arith, is, gate)

body_beside : (slot : Slot) (i : ℕ) → InBlock (body_block (other_slot slot)) i → Union (InBlock (body_block slot)) (Single (gate_sector slot)) i → ⊥
body_beside A i is (inl body) = omega (arith, is.0, is.1, body.0, body.1)
body_beside A i is (inr gate) = omega (arith, is.1, gate)
body_beside B i is (inl body) = omega (arith, is.0, is.1, body.0, body.1)
body_beside B i is (inr gate) = omega (arith, is.1, gate)

closing_beside : (slot : Slot) (gate : Gate) (i : ℕ) → InClosing (other_slot slot) gate i → Union (InBlock (body_block slot)) (Single (gate_sector slot)) i → ⊥
closing_beside slot Open i is root = gate_beside slot i is root
closing_beside slot Closed i none root = none

high_beside : (slot : Slot) (i : ℕ) → 32 ≤ i → Union (InBlock (body_block slot)) (Single (gate_sector slot)) i → ⊥
high_beside slot i high (inl body) = let low = body_low slot i body in omega (arith, high, low)
high_beside slot i high (inr gate) = let low = gate_low slot i gate in omega (arith, high, low)

-- a half of the log is apart from the root that counts
pub half_apart : (n epoch : ℕ) (slot : Slot) (i : ℕ) → InHalf (base_of n epoch) i → IsApart n slot i
half_apart n epoch slot i is (inl block) = omega (arith, is.0, block.1, half_from n (half_of_epoch epoch))
half_apart n epoch slot i is (inr (inl map)) = (areas_apart n).maps_and_log slot epoch i map is
half_apart n epoch slot i is (inr (inr (inl body))) = let low = body_low slot i body in omega (arith, is.0, low, half_from n (half_of_epoch epoch))
half_apart n epoch slot i is (inr (inr (inr gate))) = let low = gate_low slot i gate in omega (arith, is.0, low, half_from n (half_of_epoch epoch))

-- so does the clearing with which a point begins
pub begins_writes : {T E : Type 0} (at : LogPosition) (result : Result T E) (old planned new : Disk) → planned ≡ old → Begins at result planned new → Touches (InHalf (base_of at.blocks (at.epoch + 1))) old new
begins_writes at result old planned new same begins = subst (λ (d : Disk). Touches (InHalf (base_of at.blocks (at.epoch + 1))) d new) same begins.touched

pub begins_apart : {T E : Type 0} (at : LogPosition) (slot : Slot) (result : Result T E) (old planned new : Disk) → planned ≡ old → Begins at result planned new → Touches (IsApart at.blocks slot) old new
begins_apart at slot result old planned new same begins =
    subst (λ (d : Disk). Touches (IsApart at.blocks slot) d new) same
    (Touches-within (InHalf (base_of at.blocks (at.epoch + 1))) (IsApart at.blocks slot) planned new (half_apart at.blocks (at.epoch + 1) slot) begins.touched)

-- all steps of a point write outside the root that counts
module _ (w : Work) (whole : IsWhole w) (slot : Slot) (other : other_slot slot ≡ w.slot) where
  root_beside : (stage : Stage) → IsWithin w stage → (i : ℕ) → InStep w stage i → Union (InBlock (body_block slot)) (Single (gate_sector slot)) i → ⊥
  root_beside (Blocks k) within i is root = let lie = lies_at w.blocks w.plan.blocks k is.block whole.place is.stands in high_beside slot i (omega (arith, is.within.0, lie.from)) root
  root_beside (MapBlocks k) within i is root = let start = map_start w.blocks w.slot in high_beside slot i (omega (arith, is.0, start)) root
  root_beside Stored within i is root = closing_beside slot w.gate i (subst (λ (s : Slot). InClosing s w.gate i) (sym other) is) root
  root_beside Shut within i is root = body_beside slot i (subst (λ (s : Slot). InBlock (body_block s) i) (sym other) is) root
  root_beside Bodied within i is root = gate_beside slot i (subst (λ (s : Slot). Single (gate_sector s) i) (sym other) is) root
  root_beside Done within i is root = absurd within

  pub apart : (i : ℕ) → InPoint w i → IsApart w.blocks slot i
  apart i is (inl block) = stays_apart w whole slot other 0 i is (inl block)
  apart i is (inr (inl map)) = stays_apart w whole slot other 0 i is (inr (inl map))
  apart i is (inr (inr root)) = root_beside is.stage is.within i is.of_step root

  pub writes_apart : {T E : Type 0} (result : Result T E) (v : Work) (old d new : Disk) → v ≡ w → d ≡ old → Finishes v result d new → Touches (IsApart w.blocks slot) old new
  writes_apart result v old d new is same finishes =
      subst (λ (e : Disk). Touches (IsApart w.blocks slot) e new) same (Touches-within (InPoint w) (IsApart w.blocks slot) d new apart (subst (λ (x : Work). Finishes x result d new) is finishes).touched)

  -- and a whole point does, from its beginning on
  pub point_apart : (n : ℕ) (old begun new : Disk) → w.blocks ≡ n → Touches (IsApart n slot) old begun → Touches (InPoint w) begun new → Touches (IsApart n slot) old new
  point_apart n old begun new size first rest =
      Touches-join (IsApart n slot) old begun new first
      (subst (λ (m : ℕ). Touches (IsApart m slot) begun new) size (Touches-within (InPoint w) (IsApart w.blocks slot) begun new apart rest))

pub untouched : (F : ℕ → Type 0) (old d : Disk) → d ≡ old → Touches F old d
untouched F old d same = subst (λ (e : Disk). Touches F old e) (sym same) (Touches-start F old)

-- ---- what it costs

-- of rising numbers each is no less than its place
past_place : (ns : List ℕ) → IsStrictlyIncreasing ns → (k : ℕ) → k < length ns → k ≤ slice_index ns k
past_place ns rise zero within = omega arith
past_place ns rise (suc k) within =
    let before = past_place ns rise k (omega (arith, within)) in
    let next = rise k (omega (arith, within)) in
    let at : k + 1 ≡ suc k = omega arith in
    let there : slice_index ns (k + 1) ≡ slice_index ns (suc k) = ap (slice_index ns) at in
    omega (arith, before, next, there)

numbers_count : (xs : List NewBlock) → length (numbers_of xs) ≡ length xs
numbers_count [] = refl
numbers_count (x ∷ xs) = omega (arith, numbers_count xs)

-- there are no more new blocks than blocks
pub few_blocks : {edit : SnapshotEdit} (n : ℕ) (limits : Limits) (words : List ℕ) (layer : Layer) (built : Built) → length words ≡ n → IsWellBuilt n limits words layer edit built → length built.blocks.items ≤ n
few_blocks n limits words layer built count well = told (length built.blocks.items) refl
  where
    told : (m : ℕ) → length built.blocks.items ≡ m → length built.blocks.items ≤ n
    told zero e = omega (arith, e)
    told (suc m) e =
        let inside : m < length (numbers_of built.blocks.items) = omega (arith, e, numbers_count built.blocks.items) in
        let free = well.free m 0 inside in
        omega (arith, e, past_place (numbers_of built.blocks.items) well.rise m inside, free.within, count)

pub unplanned_steps : {T : Type 0} (f : PointFault) (n most : ℕ) (old new : Status) → HasCauseToStop f old new → CostsSteps {T = T} (Err f) n most old new
unplanned_steps f n most old new why =
    let nothing = calls_nothing f old new why in
    record { done = tt; later = nothing.0; writes = omega (arith, nothing.1); syncs = omega (arith, nothing.2); cause = has_cause f old new why }

module _ (n most : ℕ) (built : Built) (next : RootBody) (slot : Slot) (gate : Gate) (few : length built.blocks.items ≤ most) (within : length built.blocks.items ≤ n) (old planned new : Status) (same : planned ≡ old)
    {T E : Type 0} (result : Result T E) (w : Work) (stage : Stage) (is : w ≡ record { blocks = n; slot = slot; gate = gate; plan = plan_of built next }) (first : stage ≡ first_stage (length built.blocks.items))
    (counts : CountsCalls (writes_left w stage) (syncs_left w stage) result planned new) where
  abbrev made : Work
  made = record { blocks = n; slot = slot; gate = gate; plan = plan_of built next }

  begins_first : stage ≡ first_stage (length made.plan.blocks)
  begins_first = first ∙ ap first_stage (sym (written_count built.blocks.items))

  left_writes : writes_left w stage ≡ writes_of_steps n gate (length built.blocks.items)
  left_writes = (λ i. writes_left (is i) (begins_first i)) ∙ first_writes made ∙ ap (λ (k : ℕ). 8 * k + 8 * map_blocks n + (closing_writes gate + 9)) (written_count built.blocks.items)

  left_syncs : syncs_left w stage ≡ syncs_of_steps gate
  left_syncs = let left = (λ i. syncs_left (is i) (begins_first i)) ∙ first_syncs made in omega (arith, left)

  later : IsLater old new
  later = later-join old planned new (later-same old planned same) (later-calls (writes_left w stage) (syncs_left w stage) result planned new counts)

  writes : new.writes ≤ old.writes + writes_of_steps n Open n
  writes = omega (arith, counts.writes.1, ap (λ (s : Status). s.writes) same, left_writes, within, few_closing gate)

  syncs : new.syncs ≤ old.syncs + syncs_of_steps Open
  syncs = omega (arith, counts.syncs.1, ap (λ (s : Status). s.syncs) same, left_syncs, few_steps gate)

  pub unfinished_steps : {A : Type 0} → (planned.failures < new.failures) ⊎ IsTrue (has_ended new) → CostsSteps {T = A} (Err fault.Device) n most old new
  unfinished_steps cause = record {
    done = tt;
    later = later;
    writes = writes;
    syncs = syncs;
    cause = subst (λ (m : ℕ). (m < new.failures) ⊎ IsTrue (has_ended new)) (ap (λ (s : Status). s.failures) same) cause;
  }

  pub finished_steps : {A : Type 0} (x : A) → new ≡ called (writes_left w stage) (syncs_left w stage) planned → CostsSteps (Ok x) n most old new
  finished_steps x done = record {
    done = (length built.blocks.items, few, within, gate, done ∙ (λ i. called (left_writes i) (left_syncs i) (same i)));
    later = later;
    writes = writes;
    syncs = syncs;
    cause = tt;
  }
