-- What a point leaves to a crash of what the disk shows.
use Rattle.std.proofs.Common.{◌≡◌, inl, inr, ⊎_elim, ℕ, zero, suc, ◌+◌, ◌/◌, ◌^◌, ◌<◌, ◌≤◌, List, [], ◌∷◌, length, Contains, Result, sym, subst, arith}
use Rattle.sn_device.specs.Sectors.{AreSectors, AreDisjoint, DependsOn}
use Rattle.sn_device.specs.Disk.{Disk, Always, reads}
use Rattle.sn_device.specs.Crash.{LeavesOnly, Touches}
use Rattle.sn_device.proofs.CrashLemmas.{Always-kept, LeavesOnly-now, LeavesOnly-touched}
use Rattle.sn_block.proofs.EffectLemmas.{OnOk-then}
use Rattle.sn_layout.specs.declared.geometry.Area.TheVariants.{Data, Log, MapCopy}
use Rattle.sn_layout.specs.declared.geometry.LogHalf.{LogHalf}
use Rattle.sn_layout.specs.declared.geometry.LogHalf.TheVariants.{Zero, One}
use Rattle.sn_layout.specs.declared.geometry.Slot.{Slot}
use Rattle.sn_layout.specs.declared.geometry.Slot.TheVariants.{A, B}
use Rattle.sn_layout.specs.declared.root.RootBody.{RootBody}
use Rattle.sn_layout.specs.Geometry.{IsIn, half_of_epoch, map_blocks, start_of}
use Rattle.sn_model.specs.declared.change.Change.{Change}
use Rattle.sn_ondisk.specs.Blocks.{InBlock, InBlocks}
use Rattle.sn_ondisk.specs.LogHalf.{HasNoLater, InHalf, base_of}
use Rattle.sn_ondisk.specs.MapCopy.{HasMap, InMap}
use Rattle.sn_ondisk.specs.Shown.{Shown}
use Rattle.sn_ondisk.specs.TreeLaws.{SameIn}
use Rattle.sn_ondisk.specs.Trees.{Store, store_of}
use Rattle.sn_ondisk.proofs.LogLemmas.{ReplaysTo-same}
use Rattle.sn_ondisk.proofs.PlaceLemmas.{areas_apart, halves_are}
use Rattle.sn_log.specs.Positions.{payloads_of}
use Rattle.sn_root.specs.Replacing.{LeavesEither}
use Rattle.sn_opening.specs.Opens.{InShows, LieInData, Shows}
use Rattle.sn_opening.specs.Points.{HoldsAll, StandsAt, Written}
use Rattle.sn_opening.specs.Worlds.{all_reach}
use Rattle.sn_opening.proofs.LogLemmas.{end_from, nothing_two_on}
use Rattle.sn_opening.proofs.OpeningLemmas.{same_depends, shows_depends}
use Rattle.sn_cp.specs.Points.{Work}
use Rattle.sn_cp.specs.Steps.{InNewBlock, InStep, IsWhole, IsWithin, StandsAtStage, StepsTo}
use Rattle.sn_cp.specs.Showing.{HasRecords, IsBeforeOpening, IsBeside, ShowsBeside, ShowsNext}
use Rattle.sn_cp.specs.declared.stage.Stage.{Stage}
use Rattle.sn_cp.specs.declared.stage.Stage.TheVariants.{Blocks, MapBlocks, Stored, Shut, Bodied, Done}
use Rattle.sn_cp.proofs.FrameLemmas.{FromMaps, body_low, closing_low, gate_low, holds_depend, map_depends}
use Rattle.sn_cp.proofs.StepLemmas.{lies_at}

-- ---- where a step writes

half_from : (n : ℕ) (half : LogHalf) → 4 ≤ start_of n (Log half)
half_from n Zero = omega arith
half_from n One = omega arith

low_and_half : (n epoch i : ℕ) → i < 32 → InHalf (base_of n epoch) i → ⊥
low_and_half n epoch i low is = let from = half_from n (half_of_epoch epoch) in omega (arith, low, is.0, from)

low_and_reach : (n : ℕ) (blocks : List ℕ) (i : ℕ) → LieInData n blocks → i < 32 → InBlocks blocks i → ⊥
low_and_reach n blocks i lie low among = let placed = lie (i / 8) among in omega (arith, low, placed.from)

data_and_half : (n epoch block i : ℕ) → IsIn n Data block → InBlock block i → InHalf (base_of n epoch) i → ⊥
data_and_half n epoch block i lie is half = omega (arith, is.0, half.1, (halves_are n epoch).1, end_from n (half_of_epoch epoch), lie.from)

-- a block of the slot's map copy
pub in_map : (n k : ℕ) (slot : Slot) (i : ℕ) → k < map_blocks n → InBlock (start_of n (MapCopy slot) + k) i → InMap n slot i
in_map n k slot i within is = (omega (arith, is.0), omega (arith, is.1, within))

pub map_ends : (n : ℕ) (slot : Slot) → start_of n (MapCopy slot) + map_blocks n ≤ start_of n Data
map_ends n A = omega arith
map_ends n B = omega arith

map_and_reach : (n k : ℕ) (slot : Slot) (blocks : List ℕ) (i : ℕ) → k < map_blocks n → LieInData n blocks → InBlock (start_of n (MapCopy slot) + k) i → InBlocks blocks i → ⊥
map_and_reach n k slot blocks i within lie is among = let placed = lie (i / 8) among in let ends = map_ends n slot in omega (arith, is.1, within, placed.from, ends)

stands_among : (blocks : List Written) (k : ℕ) (b : Written) → StandsAt blocks k b → Contains blocks b
stands_among [] k b at = absurd at
stands_among (x ∷ xs) zero b at = (0, omega arith, at)
stands_among (x ∷ xs) (suc k) b at = let rest = stands_among xs k b at in (suc rest.0, omega (arith, rest.1), rest.2)

module _ (w : Work) (whole : IsWhole w) where
  pub step_and_half : (stage : Stage) → IsWithin w stage → (epoch : ℕ) → AreDisjoint (InStep w stage) (InHalf (base_of w.blocks epoch))
  step_and_half (Blocks k) within epoch i is half = data_and_half w.blocks epoch is.block.0 i (lies_at w.blocks w.plan.blocks k is.block whole.place is.stands) is.within half
  step_and_half (MapBlocks k) within epoch i is half = (areas_apart w.blocks).maps_and_log w.slot epoch i (in_map w.blocks k w.slot i within is) half
  step_and_half Stored within epoch i is half = low_and_half w.blocks epoch i (closing_low w.slot w.gate i is) half
  step_and_half Shut within epoch i is half = low_and_half w.blocks epoch i (body_low w.slot i is) half
  step_and_half Bodied within epoch i is half = low_and_half w.blocks epoch i (gate_low w.slot i is) half
  step_and_half Done within epoch i is half = absurd within

  module _ (s : Store) (slot : Slot) (root : RootBody) (beside : IsBeside w s slot root) where
    new_and_reach : (k i : ℕ) → InNewBlock w k i → InBlocks (all_reach s root) i → ⊥
    new_and_reach k i is among =
        let of_block : i / 8 ≡ is.block.0 = omega (arith, is.within.0, is.within.1) in
        beside.apart is.block (stands_among w.plan.blocks k is.block is.stands) (subst (λ (b : ℕ). Contains (all_reach s root) b) of_block among)

    step_and_reach : (stage : Stage) → IsWithin w stage → AreDisjoint (InStep w stage) (InBlocks (all_reach s root))
    step_and_reach (Blocks k) within i is among = new_and_reach k i is among
    step_and_reach (MapBlocks k) within i is among = map_and_reach w.blocks k w.slot (all_reach s root) i within beside.lie is among
    step_and_reach Stored within i is among = low_and_reach w.blocks (all_reach s root) i beside.lie (closing_low w.slot w.gate i is) among
    step_and_reach Shut within i is among = low_and_reach w.blocks (all_reach s root) i beside.lie (body_low w.slot i is) among
    step_and_reach Bodied within i is among = low_and_reach w.blocks (all_reach s root) i beside.lie (gate_low w.slot i is) among
    step_and_reach Done within i is among = absurd within

    block_and_shows : (k : ℕ) → k < length w.plan.blocks → AreDisjoint (InStep w (Blocks k)) (InShows w.blocks s root)
    block_and_shows k within i is (inl (inl roots)) = let lie = lies_at w.blocks w.plan.blocks k is.block whole.place is.stands in omega (arith, is.within.0, roots.1, lie.from)
    block_and_shows k within i is (inl (inr (inl half))) = step_and_half (Blocks k) within root.epoch i is half
    block_and_shows k within i is (inl (inr (inr half))) = step_and_half (Blocks k) within (root.epoch + 1) i is half
    block_and_shows k within i is (inr among) = new_and_reach k i is among

    map_and_shows : (k : ℕ) → k < map_blocks w.blocks → AreDisjoint (InStep w (MapBlocks k)) (InShows w.blocks s root)
    map_and_shows k within i is (inl (inl roots)) = (areas_apart w.blocks).roots_and_maps w.slot i roots (in_map w.blocks k w.slot i within is)
    map_and_shows k within i is (inl (inr (inl half))) = step_and_half (MapBlocks k) within root.epoch i is half
    map_and_shows k within i is (inl (inr (inr half))) = step_and_half (MapBlocks k) within (root.epoch + 1) i is half
    map_and_shows k within i is (inr among) = step_and_reach (MapBlocks k) within i is among

-- ---- what it leaves

records_depend : (n epoch : ℕ) (changes : List Change) → DependsOn (InHalf (base_of n epoch)) (HasRecords n epoch changes)
records_depend n epoch changes c d whole_c whole_d agrees found =
    (found.0, ReplaysTo-same c d (base_of n epoch) epoch (payloads_of changes) found.0 (λ i from to. agrees.same i (from, to)) found.1)

module _ (w : Work) (whole : IsWhole w) (s : Store) (slot : Slot) (root : RootBody) (older newer third fourth : List Change) {T E : Type 0} (result : Result T E) (old new : Disk)
    (sectors : AreSectors (reads old)) (beside : ShowsBeside w s slot root older newer third fourth old) where
  records_stay : (stage : Stage) → IsWithin w stage → Touches (InStep w stage) old new → (epoch : ℕ) (changes : List Change) → Always old (HasRecords w.blocks epoch changes) → Always new (HasRecords w.blocks epoch changes)
  records_stay stage within touched epoch changes here =
      Always-kept (InStep w stage) (InHalf (base_of w.blocks epoch)) (HasRecords w.blocks epoch changes) (records_depend w.blocks epoch changes) (step_and_half w whole stage within epoch) old new sectors here touched

  reach_stays : (stage : Stage) → IsWithin w stage → Touches (InStep w stage) old new → LeavesOnly old new (λ c. SameIn (all_reach s root) s (store_of c))
  reach_stays stage within touched =
      LeavesOnly-touched (InStep w stage) (InBlocks (all_reach s root)) (λ c. SameIn (all_reach s root) s (store_of c)) (same_depends (all_reach s root) s) (step_and_reach w whole s slot root beside.beside stage within) old new sectors
      (λ c crash. (beside.shown c crash).same) touched

  -- where the step leaves the root with its records, it leaves what it reaches, too
  with_reach : (stage : Stage) → IsWithin w stage → Touches (InStep w stage) old new → LeavesOnly old new (λ c. Shown w.blocks c slot root (payloads_of older) (payloads_of newer)) → LeavesOnly old new (Shows w.blocks s slot root older newer)
  with_reach stage within touched shown =
      let reached = reach_stays stage within touched in
      record { follows = shown.follows; each = λ c since. record { shown = shown.each c since; same = reached.each c since } }

  shows_stay : (stage : Stage) → IsWithin w stage → IsBeforeOpening stage → StepsTo w stage result old new → LeavesOnly old new (Shows w.blocks s slot root older newer)
  shows_stay (Blocks k) within before steps =
      LeavesOnly-touched (InStep w (Blocks k)) (InShows w.blocks s root) (Shows w.blocks s slot root older newer) (shows_depends w.blocks s slot root older newer) (block_and_shows w whole s slot root beside.beside k within) old new sectors beside.shown steps.touched
  shows_stay (MapBlocks k) within before steps =
      LeavesOnly-touched (InStep w (MapBlocks k)) (InShows w.blocks s root) (Shows w.blocks s slot root older newer) (shows_depends w.blocks s slot root older newer) (map_and_shows w whole s slot root beside.beside k within) old new sectors beside.shown steps.touched
  shows_stay Stored within before steps = with_reach Stored within steps.touched (steps.root.shown w.blocks slot root (payloads_of older) (payloads_of newer) beside.beside.other (λ c crash. (beside.shown c crash).shown))
  shows_stay Shut within before steps = with_reach Shut within steps.touched (steps.root.shown w.blocks slot root (payloads_of older) (payloads_of newer) beside.beside.other (λ c crash. (beside.shown c crash).shown))
  shows_stay Bodied within before steps = absurd before
  shows_stay Done within before steps = absurd before

  pub steps_keep : (stage : Stage) → IsWithin w stage → IsBeforeOpening stage → StepsTo w stage result old new
      → LeavesOnly old new (Shows w.blocks s slot root older newer) × ShowsBeside w s slot root older newer third fourth new
  steps_keep stage within before steps =
      let left = shows_stay stage within before steps in (
        left,
        record {
          beside = beside.beside;
          shown = LeavesOnly-now old new (Shows w.blocks s slot root older newer) left;
          has_third = records_stay stage within steps.touched w.plan.next.epoch third beside.has_third;
          has_fourth = records_stay stage within steps.touched (w.plan.next.epoch + 1) fourth beside.has_fourth;
        },
      )

  -- ---- the gate is opened

  blocks_stay : StandsAtStage w Bodied old → Touches (InStep w Bodied) old new → LeavesOnly old new (λ c. HoldsAll (store_of c) w.plan.blocks)
  blocks_stay stands touched =
      LeavesOnly-touched (InStep w Bodied) FromMaps (λ c. HoldsAll (store_of c) w.plan.blocks) (holds_depend w.blocks w.plan.blocks whole.place) (λ i is from. let low = gate_low w.slot i is in omega (arith, low, from)) old new sectors stands.reached.0.blocks touched

  map_stays : StandsAtStage w Bodied old → Touches (InStep w Bodied) old new → LeavesOnly old new (λ c. HasMap w.blocks c w.slot w.plan.words)
  map_stays stands touched =
      LeavesOnly-touched (InStep w Bodied) FromMaps (λ c. HasMap w.blocks c w.slot w.plan.words) (map_depends w.blocks w.slot w.plan.words) (λ i is from. let low = gate_low w.slot i is in omega (arith, low, from)) old new sectors stands.reached.0.map touched

  pub opening_shows : StandsAtStage w Bodied old → StepsTo w Bodied result old new → LeavesEither result old new (Shows w.blocks s slot root older newer) (ShowsNext w s root third fourth)
  opening_shows stands steps =
      let changed = steps.root.shown w.blocks slot root (payloads_of older) (payloads_of newer) (payloads_of third) (payloads_of fourth) beside.beside.other beside.beside.later (λ c crash. (beside.shown c crash).shown) beside.has_third beside.has_fourth in
      let reached = reach_stays Bodied tt steps.touched in
      let held = blocks_stay stands steps.touched in
      let mapped = map_stays stands steps.touched in
      let reached_now = LeavesOnly-now old new (λ c. SameIn (all_reach s root) s (store_of c)) reached in
      let held_now = LeavesOnly-now old new (λ c. HoldsAll (store_of c) w.plan.blocks) held in
      let mapped_now = LeavesOnly-now old new (λ c. HasMap w.blocks c w.slot w.plan.words) mapped in
      record {
        any_moment = record {
          follows = changed.any_moment.follows;
          each = λ c since. ⊎_elim
              (λ shown. inl (record { shown = shown; same = reached.each c since }))
              (λ next. inr (record { shown = next; same = reached.each c since; blocks = held.each c since; map = mapped.each c since }))
              (changed.any_moment.each c since);
        };
        done = OnOk-then result (λ next c crash. record { shown = next c crash; same = reached_now c crash; blocks = held_now c crash; map = mapped_now c crash }) changed.done;
      }

-- ---- the records of the next root

pub ordinary_show : (w : Work) (s : Store) (slot : Slot) (root : RootBody) (older newer : List Change) (d : Disk)
    → IsBeside w s slot root → w.plan.next.epoch ≡ root.epoch + 1 → root.epoch + 2 < 256 ^ 8
    → Always d (Shows w.blocks s slot root older newer) → Always d (λ c. HasNoLater c (base_of w.blocks root.epoch) root.epoch)
    → ShowsBeside w s slot root older newer newer [] d
ordinary_show w s slot root older newer d beside epoch fits shown none =
    let two : root.epoch + 2 ≡ w.plan.next.epoch + 1 = omega (arith, epoch) in
    record {
      beside = beside;
      shown = shown;
      has_third = λ c crash. subst (λ (e : ℕ). HasRecords w.blocks e newer c) (sym epoch) (shown c crash).shown.has_newer;
      has_fourth = λ c crash. subst (λ (e : ℕ). HasRecords w.blocks e [] c) two (0, nothing_two_on w.blocks root.epoch c fits (none c crash));
    }
