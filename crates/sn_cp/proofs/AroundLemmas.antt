-- Where a point doesn't write.
use Rattle.std.proofs.Common.{◌≡◌, inl, inr, ℕ, ◌+◌, ◌<◌, ◌≤◌, sym, subst, arith}
use Rattle.sn_device.specs.Sectors.{AreDisjoint, Single}
use Rattle.sn_layout.specs.declared.gate.Gate.{Gate}
use Rattle.sn_layout.specs.declared.gate.Gate.TheVariants.{Open, Closed}
use Rattle.sn_layout.specs.declared.geometry.Slot.{Slot}
use Rattle.sn_layout.specs.declared.geometry.Slot.TheVariants.{A, B}
use Rattle.sn_layout.specs.Geometry.{gate_sector, other_slot}
use Rattle.sn_ondisk.specs.Blocks.{InBlock}
use Rattle.sn_ondisk.specs.MapCopy.{InMap}
use Rattle.sn_ondisk.specs.Roots.{body_block}
use Rattle.sn_ondisk.proofs.PlaceLemmas.{areas_apart}
use Rattle.sn_root.specs.Replacing.{InClosing}
use Rattle.sn_cp.specs.Points.{Work}
use Rattle.sn_cp.specs.Showing.{InAround, InPoint}
use Rattle.sn_cp.specs.Steps.{InStep, IsWhole, IsWithin}
use Rattle.sn_cp.specs.declared.stage.Stage.{Stage}
use Rattle.sn_cp.specs.declared.stage.Stage.TheVariants.{Blocks, MapBlocks, Stored, Shut, Bodied, Done}
use Rattle.sn_cp.proofs.FrameLemmas.{body_low, closing_low, gate_low, map_start}
use Rattle.sn_cp.proofs.ShowLemmas.{in_map, map_ends, step_and_half}
use Rattle.sn_cp.proofs.StepLemmas.{lies_at}

gate_high : (slot : Slot) (i : ℕ) → Single (gate_sector slot) i → 8 ≤ i
gate_high A i is = omega (arith, is)
gate_high B i is = omega (arith, is)

closing_high : (slot : Slot) (gate : Gate) (i : ℕ) → InClosing slot gate i → 8 ≤ i
closing_high slot Open i is = gate_high slot i is
closing_high slot Closed i none = absurd none

body_high : (slot : Slot) (i : ℕ) → InBlock (body_block slot) i → 8 ≤ i
body_high A i is = omega (arith, is.0)
body_high B i is = omega (arith, is.0)

module _ (w : Work) (whole : IsWhole w) where
  behind_first : (stage : Stage) → IsWithin w stage → (i : ℕ) → InStep w stage i → 8 ≤ i
  behind_first (Blocks k) within i is = let lie = lies_at w.blocks w.plan.blocks k is.block whole.place is.stands in omega (arith, is.within.0, lie.from)
  behind_first (MapBlocks k) within i is = let start = map_start w.blocks w.slot in omega (arith, is.0, start)
  behind_first Stored within i is = closing_high w.slot w.gate i is
  behind_first Shut within i is = body_high w.slot i is
  behind_first Bodied within i is = gate_high w.slot i is
  behind_first Done within i is = absurd within

  low_and_map : (slot : Slot) (i : ℕ) → i < 32 → InMap w.blocks slot i → ⊥
  low_and_map slot i low is = let start = map_start w.blocks slot in omega (arith, low, is.0, start)

  module _ (slot : Slot) (other : other_slot slot ≡ w.slot) where
    beside_map : (stage : Stage) → IsWithin w stage → AreDisjoint (InStep w stage) (InMap w.blocks slot)
    beside_map (Blocks k) within i is map =
        let lie = lies_at w.blocks w.plan.blocks k is.block whole.place is.stands in
        let ends = map_ends w.blocks slot in
        omega (arith, is.within.0, map.1, lie.from, ends)
    beside_map (MapBlocks k) within i is map = (areas_apart w.blocks).maps slot i map (subst (λ (s : Slot). InMap w.blocks s i) (sym other) (in_map w.blocks k w.slot i within is))
    beside_map Stored within i is map = low_and_map slot i (closing_low w.slot w.gate i is) map
    beside_map Shut within i is map = low_and_map slot i (body_low w.slot i is) map
    beside_map Bodied within i is map = low_and_map slot i (gate_low w.slot i is) map
    beside_map Done within i is map = absurd within

    pub stays_apart : (epoch : ℕ) → AreDisjoint (InPoint w) (InAround w.blocks slot epoch)
    stays_apart epoch i is (inl block) = let behind = behind_first is.stage is.within i is.of_step in omega (arith, block.1, behind)
    stays_apart epoch i is (inr (inl map)) = beside_map is.stage is.within i is.of_step map
    stays_apart epoch i is (inr (inr (inl half))) = step_and_half w whole is.stage is.within epoch i is.of_step half
    stays_apart epoch i is (inr (inr (inr half))) = step_and_half w whole is.stage is.within (epoch + 1) i is.of_step half
