-- How each step leads to the next stage.
use Rattle.std.proofs.Common.{◌≡◌, ◌≢◌, ℕ, zero, suc, ◌+◌, ◌*◌, ◌-◌, ◌<◌, ◌≤◌, Bool, true, false, cond, List, [], ◌∷◌, length, map, take, drop, min, nat_lt, Result, OnOk, IsTrue, refl, sym, ap, subst, ◌∙◌, arith}
use Rattle.std.specs.List.{AllByRecursion, AllPairs, slice_index_or}
use Rattle.std.proofs.lemmas.Bool.{ltb-false}
use Rattle.std.proofs.lemmas.List.{length-drop, take_all, take_min}
use Rattle.std.proofs.lemmas.List.Kept.{AllPairs-from_increasing}
use Rattle.sn_device.specs.Sectors.{Contents, AreSectors, Single}
use Rattle.sn_device.specs.Disk.{Disk, Always, IsSynced, reads}
use Rattle.sn_device.specs.Crash.{Touches}
use Rattle.sn_device.proofs.CrashLemmas.{Touches-join, Touches-within}
use Rattle.sn_block.specs.Effects.{Nowhere, SyncsAll, WritesStretch}
use Rattle.sn_block.proofs.EffectLemmas.{OnOk-then}
use Rattle.sn_layout.specs.declared.gate.Gate.{Gate}
use Rattle.sn_layout.specs.declared.gate.Gate.TheVariants.{Open, Closed}
use Rattle.sn_layout.specs.declared.geometry.Area.TheVariants.{Data, MapCopy}
use Rattle.sn_layout.specs.MapCopy.{map_block_bytes}
use Rattle.sn_layout.specs.Geometry.{IsIn, gate_sector, start_of, map_blocks}
use Rattle.sn_ondisk.specs.Blocks.{InBlock}
use Rattle.sn_ondisk.specs.MapLaws.{words_of_block}
use Rattle.sn_ondisk.specs.Trees.{store_of}
use Rattle.sn_root.specs.Slots.{gate_in}
use Rattle.sn_ondisk.specs.Roots.{body_block}
use Rattle.sn_root.specs.Replacing.{ChangesRoot, ClosesSlot, InClosing, KeepsRoot, OpensSlot, WritesBody}
use Rattle.sn_opening.specs.Points.{HasMapBlocks, HasReached, HoldsAll, IsStored, StandsAt, Written, numbers_written}
use Rattle.sn_opening.specs.Points as far
use Rattle.sn_opening.proofs.StepLemmas.{block_reached, map_block_reached, sync_stores}
use Rattle.sn_tree.specs.declared.new_block.NewBlock.{NewBlock}
use Rattle.sn_cp.specs.Points.{Work, written_by}
use Rattle.sn_cp.specs.Steps.{InNewBlock, IsWhole, StandsAtStage, StepsTo, with_map}
use Rattle.sn_cp.specs.declared.stage.Stage.TheVariants.{Blocks, MapBlocks, Stored, Shut, Bodied}
use Rattle.sn_cp.proofs.FrameLemmas.{block_and_gate, body_low, closing_low, gate_low, gate_stays, is_closed_in, map_and_gate, stored_stays}

-- ---- the blocks of a list

-- one that the list has, as a block that is written
stands_in : (xs : List NewBlock) (k : ℕ) (d : NewBlock) → k < length (map written_by xs) → StandsAt (map written_by xs) k (written_by (slice_index_or xs k d))
stands_in [] k d within = absurd (omega (arith, within))
stands_in (x ∷ xs) zero d within = refl
stands_in (x ∷ xs) (suc k) d within = stands_in xs k d (omega (arith, within))

-- the one that is lent for a place
pub lent_at : (xs ys : List NewBlock) (k : ℕ) (b d : NewBlock) → ys ≡ xs → b ≡ slice_index_or ys k d → k < length (map written_by xs) → StandsAt (map written_by xs) k (written_by b)
lent_at xs ys k b d same is within =
    subst (λ (x : NewBlock). StandsAt (map written_by xs) k (written_by x)) (sym (is ∙ ap (λ (zs : List NewBlock). slice_index_or zs k d) same)) (stands_in xs k d within)

number_at : (xs : List Written) (k : ℕ) (b : Written) (d : ℕ) → StandsAt xs k b → (slice_index_or (numbers_written xs) k d ≡ b.0) × (k < length (numbers_written xs))
number_at [] k b d at = absurd at
number_at (x ∷ xs) zero b d at = (ap (λ (y : Written). y.0) at, omega arith)
number_at (x ∷ xs) (suc k) b d at = let rest = number_at xs k b d at in (rest.0, omega (arith, rest.1))

-- the blocks before one have other numbers
others_differ : (blocks : List Written) (k : ℕ) (b : Written) → AllPairs (λ x y. x < y) (numbers_written blocks) → StandsAt blocks k b → AllByRecursion (λ (x : Written). x.0 ≢ b.0) (take k blocks)
others_differ [] k b pairs at = absurd at
others_differ (x ∷ xs) zero b pairs at = tt
others_differ (x ∷ xs) (suc k) b pairs at =
    let there = number_at xs k b 0 at in
    let below : x.0 < slice_index_or (numbers_written xs) k 0 = pairs 0 (suc k) 0 (omega arith) (omega (arith, there.1)) in
    (λ same. omega (arith, same, below, there.0), others_differ xs k b (λ i j d before within. pairs (suc i) (suc j) d (omega (arith, before)) (omega (arith, within))) at)

-- where it is
pub lies_at : (n : ℕ) (blocks : List Written) (k : ℕ) (b : Written) → AllByRecursion (λ (x : Written). IsIn n Data x.0) blocks → StandsAt blocks k b → IsIn n Data b.0
lies_at n [] k b lie at = absurd at
lies_at n (x ∷ xs) zero b lie at = subst (λ (y : Written). IsIn n Data y.0) at lie.0
lies_at n (x ∷ xs) (suc k) b lie at = lies_at n xs k b lie.1 at

-- a part of the words of the map is that of a block
pub range_is_words : (words : List ℕ) (k from end : ℕ) → from ≡ 1024 * k → end ≡ min (length words) (from + 1024) → 1024 * k ≤ length words → take (end - from) (drop from words) ≡ words_of_block k words
range_is_words words k from end at to within =
    let count : end - from ≡ min 1024 (length (drop from words)) = omega (arith, at, to, within, length-drop from words) in
    ap (λ (m : ℕ). take m (drop from words)) count ∙ take_min 1024 (drop from words) ∙ ap (λ (m : ℕ). take 1024 (drop m words)) at

-- ---- a new block

module _ (w : Work) (whole : IsWhole w) (k : ℕ) (within : k < length w.plan.blocks) (b : Written) (at : StandsAt w.plan.blocks k b) {T E : Type 0} (result : Result T E) (old new : Disk) (sectors : AreSectors (reads old))
    (stands : StandsAtStage w (Blocks k) old) (writes : WritesStretch (8 * b.0) 8 b.1 result old new) where
  block_gate : Always new (λ c. gate_in c w.slot ≡ w.gate)
  block_gate = gate_stays (InBlock b.0) old new sectors writes.touched w.slot w.gate (block_and_gate w.blocks b.0 w.slot (lies_at w.blocks w.plan.blocks k b whole.place at)) stands.gate

  reached : OnOk result (HasReached w.blocks new w.slot w.plan (far.Blocks (suc k)))
  reached = OnOk-then result
      (λ done. block_reached w.blocks k w.slot w.plan b old new at (others_differ w.plan.blocks k b (AllPairs-from_increasing (numbers_written w.plan.blocks) whole.once) at) writes.touched done stands.reached)
      writes.done

  next_block : (more : Bool) → nat_lt (k + 1) (length w.plan.blocks) ≡ more → HasReached w.blocks new w.slot w.plan (far.Blocks (suc k)) → StandsAtStage w (cond more (Blocks (k + 1)) (MapBlocks 0)) new
  next_block true is done =
      let same : suc k ≡ k + 1 = omega arith in
      record { reached = subst (λ (m : ℕ). HoldsAll (store_of (reads new)) (take m w.plan.blocks)) same done; gate = block_gate }
  next_block false is done =
      let all = ltb-false (k + 1) (length w.plan.blocks) is in
      record {
        reached = (omega arith, subst (HoldsAll (store_of (reads new))) (take_all (suc k) w.plan.blocks (omega (arith, all))) done, λ j before. absurd (omega (arith, before)));
        gate = block_gate;
      }

  pub block_steps : StepsTo w (Blocks k) result old new
  block_steps = record {
    touched = Touches-within (InBlock b.0) (InNewBlock w k) old new (λ i is. record { block = b; stands = at; within = is }) writes.touched;
    root = tt;
    next = OnOk-then result (next_block (nat_lt (k + 1) (length w.plan.blocks)) refl) reached;
  }

-- ---- a block of the map

module _ (w : Work) (whole : IsWhole w) (k : ℕ) (within : k < map_blocks w.blocks) {T E : Type 0} (result : Result T E) (old mid : Disk) (sectors : AreSectors (reads old))
    (stands : StandsAtStage w (MapBlocks k) old) (bytes : List ℕ) (is : bytes ≡ map_block_bytes (words_of_block k w.plan.words)) (writes : WritesStretch (8 * (start_of w.blocks (MapCopy w.slot) + k)) 8 bytes result old mid) where
  map_gate : Always mid (λ c. gate_in c w.slot ≡ w.gate)
  map_gate = gate_stays (InBlock (start_of w.blocks (MapCopy w.slot) + k)) old mid sectors writes.touched w.slot w.gate (map_and_gate w.blocks k w.slot w.slot) stands.gate

  pub map_reached : OnOk result (HasReached w.blocks mid w.slot w.plan (far.MapBlocks (k + 1)))
  map_reached = OnOk-then result (λ done. map_block_reached w.blocks k w.slot w.plan old mid whole.place within writes.touched (done ∙ is) stands.reached) writes.done

  -- one that isn't the last
  pub map_steps : IsTrue (nat_lt (k + 1) (map_blocks w.blocks)) → StepsTo w (MapBlocks k) result old mid
  map_steps more = record {
    touched = writes.touched;
    root = tt;
    next = OnOk-then result
        (λ done. subst (λ (b : Bool). StandsAtStage w (cond b (MapBlocks (k + 1)) (with_map w.gate)) mid) (sym more) (record { reached = done; gate = map_gate }))
        map_reached;
  }

  -- the last, and the sync after it
  module _ (last : nat_lt (k + 1) (map_blocks w.blocks) ≡ false) (wrote : HasReached w.blocks mid w.slot w.plan (far.MapBlocks (k + 1))) {U F : Type 0} (answer : Result U F) (new : Disk) (syncs : SyncsAll answer mid new) where
    both : Touches (InBlock (start_of w.blocks (MapCopy w.slot) + k)) old new
    both = Touches-join (InBlock (start_of w.blocks (MapCopy w.slot) + k)) old mid new writes.touched
        (Touches-within Nowhere (InBlock (start_of w.blocks (MapCopy w.slot) + k)) mid new (λ i none. absurd none) syncs.touched)

    gate_now : Always new (λ c. gate_in c w.slot ≡ w.gate)
    gate_now = gate_stays (InBlock (start_of w.blocks (MapCopy w.slot) + k)) old new sectors both w.slot w.gate (map_and_gate w.blocks k w.slot w.slot) stands.gate

    stored_now : IsSynced new → IsStored w.blocks new w.slot w.plan
    stored_now synced =
        let all = ltb-false (k + 1) (map_blocks w.blocks) last in
        let count : k + 1 ≡ map_blocks w.blocks = omega (arith, all, within) in
        sync_stores w.blocks w.slot w.plan new synced whole.words whole.fits
        (subst (λ (c : Contents). (map_blocks w.blocks ≤ map_blocks w.blocks) × HoldsAll (store_of c) w.plan.blocks × HasMapBlocks w.blocks c w.slot w.plan.words (map_blocks w.blocks)) (sym syncs.same)
        (subst (λ (m : ℕ). HasReached w.blocks mid w.slot w.plan (far.MapBlocks m)) count wrote))

    next_root : (gate : Gate) → w.gate ≡ gate → IsSynced new → StandsAtStage w (with_map gate) new
    next_root Open is synced = record { reached = stored_now synced; gate = gate_now }
    next_root Closed is synced = record { reached = (stored_now synced, λ c crash. is_closed_in c w.slot (gate_now c crash ∙ is)); gate = tt }

    pub last_steps : StepsTo w (MapBlocks k) answer old new
    last_steps = record {
      touched = both;
      root = tt;
      next = OnOk-then answer
          (λ synced. subst (λ (b : Bool). StandsAtStage w (cond b (MapBlocks (k + 1)) (with_map w.gate)) new) (sym last) (next_root w.gate refl synced))
          syncs.synced;
    }

-- ---- the root

module _ (w : Work) (whole : IsWhole w) {T E : Type 0} (result : Result T E) (old new : Disk) (sectors : AreSectors (reads old)) where
  pub shut_steps : StandsAtStage w Stored old → ClosesSlot w.slot w.gate result old new → KeepsRoot w.slot old new → StepsTo w Stored result old new
  shut_steps stands closes keeps = record {
    touched = closes.touched;
    root = keeps;
    next = OnOk-then result
        (λ closed. record { reached = (stored_stays (InClosing w.slot w.gate) old new sectors closes.touched w.blocks w.slot w.plan (closing_low w.slot w.gate) whole.place stands.reached, closed); gate = tt })
        closes.closed;
  }

  pub body_steps : StandsAtStage w Shut old → WritesBody w.slot w.plan.next result old new → KeepsRoot w.slot old new → StepsTo w Shut result old new
  body_steps stands writes keeps = record {
    touched = writes.touched;
    root = keeps;
    next = OnOk-then result
        (λ body. record { reached = (stored_stays (InBlock (body_block w.slot)) old new sectors writes.touched w.blocks w.slot w.plan (body_low w.slot) whole.place stands.reached.0, writes.closed, body); gate = tt })
        writes.body;
  }

  pub open_steps : StandsAtStage w Bodied old → OpensSlot w.slot result old new → ChangesRoot w.slot w.plan.next result old new → StepsTo w Bodied result old new
  open_steps stands opens changes = record {
    touched = opens.touched;
    root = changes;
    next = OnOk-then result
        (λ synced. record { reached = (stored_stays (Single (gate_sector w.slot)) old new sectors opens.touched w.blocks w.slot w.plan (gate_low w.slot) whole.place stands.reached.0, synced); gate = tt })
        opens.synced;
  }
