-- What a call of the log leaves of a point, and how one begins.
use Rattle.std.proofs.Common.{◌≡◌, ℕ, ◌+◌, ◌==◌, ◌||◌, nat_le, if◌then◌else◌, Bool, true, false, List, [], Result, refl, sym, ap, subst, ◌∙◌, arith}
use Rattle.sn_device.specs.Sectors.{Contents, AreSectors, Single}
use Rattle.sn_device.specs.Disk.{Disk, Always, IsSynced, reads}
use Rattle.sn_device.specs.Crash.{LeavesOnly, Touches}
use Rattle.sn_device.proofs.CrashLemmas.{Always-reads, Touches-within}
use Rattle.sn_block.proofs.EffectLemmas.{OnOk-then}
use Rattle.sn_layout.specs.declared.geometry.LogHalf.{LogHalf}
use Rattle.sn_layout.specs.declared.geometry.Slot.{Slot}
use Rattle.sn_layout.specs.declared.root.RootBody.{RootBody}
use Rattle.sn_layout.specs.Geometry.{half_of_epoch}
use Rattle.sn_model.specs.declared.change.Change.{Change}
use Rattle.sn_ondisk.specs.Gates.{gate_at}
use Rattle.sn_ondisk.specs.LogHalf.{HasNoLater, InHalf, Replays, ReplaysTo, base_of, cleared_sector}
use Rattle.sn_ondisk.specs.Trees.{Store}
use Rattle.sn_log.specs.Clearing.{Clears}
use Rattle.sn_log.specs.Positions.{LogPosition, half_base}
use Rattle.sn_root.specs.Slots.{gate_in}
use Rattle.sn_root.proofs.ReplacingLemmas.{log_and_gate}
use Rattle.sn_opening.specs.Opens.{LieInData, Shows}
use Rattle.sn_opening.specs.Points as far
use Rattle.sn_opening.specs.Worlds.{all_reach}
use Rattle.sn_opening.proofs.LogLemmas.{begin_shows}
use Rattle.sn_opening.proofs.PointLemmas.{reached_kept}
use Rattle.sn_cp.specs.Beginning.{Begins}
use Rattle.sn_cp.specs.Points.{HasCome, Work}
use Rattle.sn_cp.specs.Steps.{GateIs, IsWhole, IsWithin, StandsAtStage}
use Rattle.sn_cp.specs.declared.stage.Stage.{Stage}
use Rattle.sn_cp.specs.declared.stage.Stage.TheVariants.{Blocks, MapBlocks, Stored, Shut, Bodied, Done}
use Rattle.sn_cp.proofs.FrameLemmas.{gate_stays}

module _ (w : Work) (whole : IsWhole w) (epoch : ℕ) (old new : Disk) (sectors : AreSectors (reads old)) (touched : Touches (InHalf (base_of w.blocks epoch)) old new) where
  gate_kept : Always old (λ c. gate_in c w.slot ≡ w.gate) → Always new (λ c. gate_in c w.slot ≡ w.gate)
  gate_kept here = gate_stays (InHalf (base_of w.blocks epoch)) old new sectors touched w.slot w.gate (log_and_gate w.blocks epoch w.slot) here

  gate_is : (stage : Stage) → GateIs w stage old → GateIs w stage new
  gate_is (Blocks k) here = gate_kept here
  gate_is (MapBlocks k) here = gate_kept here
  gate_is Stored here = gate_kept here
  gate_is Shut here = tt
  gate_is Bodied here = tt
  gate_is Done here = tt

  has_come : (stage : Stage) → IsWithin w stage → HasCome w stage old → HasCome w stage new
  has_come (Blocks k) within come = reached_kept w.blocks epoch old new sectors touched w.slot w.plan (far.Blocks k) whole.place come
  has_come (MapBlocks k) within come = reached_kept w.blocks epoch old new sectors touched w.slot w.plan (far.MapBlocks k) whole.place come
  has_come Stored within come = reached_kept w.blocks epoch old new sectors touched w.slot w.plan far.Stored whole.place come
  has_come Shut within come = reached_kept w.blocks epoch old new sectors touched w.slot w.plan far.Shut whole.place come
  has_come Bodied within come = reached_kept w.blocks epoch old new sectors touched w.slot w.plan far.Bodied whole.place come
  has_come Done within come = absurd within

pub log_keeps : (w : Work) (stage : Stage) (epoch : ℕ) (old new : Disk) → AreSectors (reads old) → IsWhole w → IsWithin w stage
    → Touches (InHalf (base_of w.blocks epoch)) old new
    → StandsAtStage w stage old → StandsAtStage w stage new
log_keeps w stage epoch old new sectors whole within touched stands = record {
  reached = has_come w whole epoch old new sectors touched stage within stands.reached;
  gate = gate_is w whole epoch old new sectors touched stage stands.gate;
}

-- ---- how a point begins

cleared_within : (c : Contents) (base i : ℕ) → Single (cleared_sector c base 0) i → InHalf base i
cleared_within c base i is = place (gate_at c (base + 0) == 1) is
  where
    place : (shut : Bool) → i ≡ (if shut || nat_le 254 0 then base + 0 else base + 0 + 1) → InHalf base i
    place true is = (omega (arith, is), omega (arith, is))
    place false is = (omega (arith, is), omega (arith, is))

-- no record of an epoch is found from its first place on
none_there : (c : Contents) (base epoch : ℕ) → Replays c base epoch [] → ReplaysTo c base epoch [] 0
none_there c base epoch found = subst (λ (end : ℕ). ReplaysTo c base epoch [] end) found.1.leads found.1

module _ {T E : Type 0} (at : LogPosition) (result : Result T E) (old new : Disk) (sectors : AreSectors (reads old)) (clears : Clears (base_of at.blocks (at.epoch + 1)) 0 result old new) where
  begin_touches : Touches (InHalf (base_of at.blocks (at.epoch + 1))) old new
  begin_touches = Touches-within (Single (cleared_sector (reads old) (base_of at.blocks (at.epoch + 1)) 0)) (InHalf (base_of at.blocks (at.epoch + 1))) old new
      (cleared_within (reads old) (base_of at.blocks (at.epoch + 1))) clears.written.touched

  begin_shown : (s : Store) (slot : Slot) (root : RootBody) (older : List Change) → IsSynced old → root.epoch ≡ at.epoch → LieInData at.blocks (all_reach s root)
      → Always old (Shows at.blocks s slot root older []) → LeavesOnly old new (Shows at.blocks s slot root older [])
  begin_shown s slot root older synced epoch lie here =
      let next : at.epoch + 1 ≡ root.epoch + 1 = omega (arith, epoch) in
      let base = base_of at.blocks (root.epoch + 1) in
      let same : base_of at.blocks (at.epoch + 1) ≡ base = ap (base_of at.blocks) next in
      let found = none_there (reads old) base (root.epoch + 1) (Always-reads old (Shows at.blocks s slot root older []) sectors here).shown.has_newer in
      let kept = subst (λ (b : ℕ). Clears b 0 result old new) same clears in
      begin_shows at.blocks s slot root older old new sectors lie here (subst (λ (b : ℕ). Touches (InHalf b) old new) same begin_touches) (kept.keeps (root.epoch + 1) [] synced found)

  begins : Begins at result old new
  begins = record {
    touched = begin_touches;
    shown = begin_shown;
    none_later = λ epoch synced none. clears.adds epoch refl synced (Always-reads old (λ c. HasNoLater c (base_of at.blocks (at.epoch + 1)) epoch) sectors none);
    ready = OnOk-then result (λ shut c crash. record { count = refl; ready = record { leads = refl; closed = shut c crash } }) clears.closed;
    synced = clears.written.synced;
  }

-- the half that is cleared is that of the next epoch
half_is : (at : LogPosition) (geometry epoch : ℕ) (half : LogHalf) → at.blocks ≡ geometry → half ≡ half_of_epoch epoch → epoch ≡ at.epoch + 1 → half_base geometry half ≡ base_of at.blocks (at.epoch + 1)
half_is at geometry epoch half same is next =
    ap (half_base geometry) is ∙ ap (λ (e : ℕ). half_base geometry (half_of_epoch e)) next ∙ ap (λ (n : ℕ). half_base n (half_of_epoch (at.epoch + 1))) (sym same)

pub begins_from : {T E : Type 0} (at : LogPosition) (geometry epoch : ℕ) (half : LogHalf) → at.blocks ≡ geometry → half ≡ half_of_epoch epoch → epoch ≡ at.epoch + 1
    → (result : Result T E) (old new : Disk) → AreSectors (reads old) → Clears (half_base geometry half) 0 result old new → Begins at result old new
begins_from at geometry epoch half same is next result old new sectors clears =
    begins at result old new sectors (subst (λ (base : ℕ). Clears base 0 result old new) (half_is at geometry epoch half same is next) clears)
