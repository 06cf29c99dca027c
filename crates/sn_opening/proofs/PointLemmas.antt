-- What the steps of a point leave of what a disk opens to, and what calls between them leave of the point.
use Rattle.std.proofs.Common.{◌≡◌, ◌⊎◌, inl, inr, ℕ, zero, suc, ◌+◌, ◌*◌, ◌/◌, ◌<◌, ◌≤◌, List, [], ◌∷◌, ◌++◌, take, Contains, subst, ◌∙◌, arith}
use Rattle.std.specs.List.{AllByRecursion}
use Rattle.sn_device.specs.Sectors.{Contents, AreSectors, AgreesOutside, AreDisjoint, DependsOn, Single}
use Rattle.sn_device.specs.Disk.{Disk, Always, reads}
use Rattle.sn_device.specs.Crash.{LeavesOnly, Touches}
use Rattle.sn_device.proofs.CrashLemmas.{LeavesOnly-touched, Always-kept, Touches-present}
use Rattle.sn_layout.specs.declared.geometry.Area.TheVariants.{Data, MapCopy}
use Rattle.sn_layout.specs.declared.geometry.Slot.{Slot}
use Rattle.sn_layout.specs.declared.root.RootBody.{RootBody}
use Rattle.sn_layout.specs.Geometry.{IsIn, start_of, map_blocks, gate_sector, other_slot, half_of_epoch}
use Rattle.sn_model.specs.declared.change.Change.{Change}
use Rattle.sn_model.specs.World.{World}
use Rattle.sn_ondisk.specs.Blocks.{InBlocks, block_at}
use Rattle.sn_ondisk.specs.Gates.{IsClosed}
use Rattle.sn_ondisk.specs.LogHalf.{InHalf, base_of}
use Rattle.sn_ondisk.specs.MapCopy.{HasMap, InMap}
use Rattle.sn_ondisk.specs.Roots.{HasRoot, InRoots}
use Rattle.sn_ondisk.specs.TreeLaws.{SameIn}
use Rattle.sn_ondisk.specs.Trees.{Store, store_of}
use Rattle.sn_ondisk.proofs.BlockLemmas.{bytes_at-same}
use Rattle.sn_ondisk.proofs.LogLemmas.{closed-same}
use Rattle.sn_ondisk.proofs.MapLemmas.{HasMap-same}
use Rattle.sn_ondisk.proofs.PlaceLemmas.{areas_apart, halves_are}
use Rattle.sn_ondisk.proofs.RootLemmas.{HasRoot-same, gate_from, gate_below, body_from, body_below}
use Rattle.sn_opening.specs.Spelled.{AreSpelled}
use Rattle.sn_opening.specs.Worlds.{StandsFor, all_reach}
use Rattle.sn_opening.specs.Opens.{LieInData, Opens, Shows, InShows}
use Rattle.sn_opening.specs.Points.{Written, Plan, Stage, Blocks, MapBlocks, Stored, Shut, Bodied, HoldsAll, IsStored, HasReached}
use Rattle.sn_opening.specs.PointLaws.{EitherShown}
use Rattle.sn_opening.proofs.OpeningLemmas.{same_depends, shows_depends, shown_opens}
use Rattle.sn_opening.proofs.LogLemmas.{end_from}

pub blocks_keep : (n : ℕ) (s : Store) (touched : List ℕ) (slot : Slot) (root : RootBody) (older newer : List Change) (old new : Disk) → AreSectors (reads old)
    → AreDisjoint (Contains touched) (InShows n s root) → Always old (Shows n s slot root older newer) → Touches (Contains touched) old new
    → LeavesOnly old new (Shows n s slot root older newer)
blocks_keep n s touched slot root older newer old new whole apart here run =
    LeavesOnly-touched (Contains touched) (InShows n s root) (Shows n s slot root older newer) (shows_depends n s slot root older newer) apart old new whole here run

-- ---- areas

-- blocks of the data area, and a sector of the gates
gates_and_data : (n : ℕ) (slot : Slot) (blocks : List ℕ) → LieInData n blocks → AreDisjoint (Single (gate_sector slot)) (InBlocks blocks)
gates_and_data n slot blocks lie i is among = let placed = lie (i / 8) among in omega (arith, is, gate_below slot, placed.from)

-- ---- the gate of the next root

module _ (n : ℕ) (s r : Store) (slot : Slot) (root next : RootBody) (older newer third fourth : List Change) (world after : World)
    (older_spelled : AreSpelled older) (newer_spelled : AreSpelled newer) (third_spelled : AreSpelled third) (fourth_spelled : AreSpelled fourth)
    (stands : StandsFor s root (older ++ newer) world) (follows : StandsFor r next (third ++ fourth) after) where
  either_opens : (c : Contents) → SameIn (all_reach s root) s (store_of c) → SameIn (all_reach r next) r (store_of c) → EitherShown n slot root older newer next third fourth c → Opens n c world ⊎ Opens n c after
  either_opens c same_old same_new (inl shown) = inl (shown_opens n s c slot root older newer world older_spelled newer_spelled stands (record { shown = shown; same = same_old }))
  either_opens c same_old same_new (inr shown) = inr (shown_opens n r c (other_slot slot) next third fourth after third_spelled fourth_spelled follows (record { shown = shown; same = same_new }))

pub opening_opens : (n : ℕ) (s r : Store) (slot : Slot) (root next : RootBody) (older newer third fourth : List Change) (world after : World) (old new : Disk)
    → AreSectors (reads old)
    → LieInData n (all_reach s root) → LieInData n (all_reach r next)
    → AreSpelled older → AreSpelled newer → AreSpelled third → AreSpelled fourth
    → StandsFor s root (older ++ newer) world → StandsFor r next (third ++ fourth) after
    → Always old (λ c. SameIn (all_reach s root) s (store_of c)) → Always old (λ c. SameIn (all_reach r next) r (store_of c))
    → Touches (Single (gate_sector (other_slot slot))) old new
    → LeavesOnly old new (EitherShown n slot root older newer next third fourth)
    → LeavesOnly old new (λ c. Opens n c world ⊎ Opens n c after)
opening_opens n s r slot root next older newer third fourth world after old new whole lie_old lie_new older_spelled newer_spelled third_spelled fourth_spelled stands follows same_old same_new touched either =
    let gate = Single (gate_sector (other_slot slot)) in
    let of_old = LeavesOnly-touched gate (InBlocks (all_reach s root)) (λ c. SameIn (all_reach s root) s (store_of c)) (same_depends (all_reach s root) s) (gates_and_data n (other_slot slot) (all_reach s root) lie_old) old new whole same_old touched in
    let of_new = LeavesOnly-touched gate (InBlocks (all_reach r next)) (λ c. SameIn (all_reach r next) r (store_of c)) (same_depends (all_reach r next) r) (gates_and_data n (other_slot slot) (all_reach r next) lie_new) old new whole same_new touched in
    record {
      follows = either.follows;
      each = λ c since. either_opens n s r slot root next older newer third fourth world after older_spelled newer_spelled third_spelled fourth_spelled stands follows c (of_old.each c since) (of_new.each c since) (either.each c since);
    }

-- ---- the point itself

-- a block of the data area, as the log is written
block_same : (n epoch : ℕ) (c d : Contents) (block : ℕ) → AgreesOutside (InHalf (base_of n epoch)) c d → IsIn n Data block → block_at d block ≡ block_at c block
block_same n epoch c d block agrees lies =
    bytes_at-same c d (8 * block) 8 (λ i from to. agrees.same i (λ is. omega (arith, is.1, (halves_are n epoch).1, end_from n (half_of_epoch epoch), lies.from, from)))

holds_same : (n epoch : ℕ) (c d : Contents) (blocks : List Written) → AgreesOutside (InHalf (base_of n epoch)) c d → AllByRecursion (λ (b : Written). IsIn n Data b.0) blocks → HoldsAll (store_of c) blocks → HoldsAll (store_of d) blocks
holds_same n epoch c d [] agrees lie holds = tt
holds_same n epoch c d (b ∷ bs) agrees lie holds = (block_same n epoch c d b.0 agrees lie.0 ∙ holds.0, holds_same n epoch c d bs agrees lie.1 holds.1)

lie_first : (n k : ℕ) (blocks : List Written) → AllByRecursion (λ (b : Written). IsIn n Data b.0) blocks → AllByRecursion (λ (b : Written). IsIn n Data b.0) (take k blocks)
lie_first n zero [] lie = tt
lie_first n (suc k) [] lie = tt
lie_first n zero (b ∷ bs) lie = tt
lie_first n (suc k) (b ∷ bs) lie = (lie.0, lie_first n k bs lie.1)

-- a fact of sectors apart from a half of the log
module _ (n epoch : ℕ) (old new : Disk) (whole : AreSectors (reads old)) (touched : Touches (InHalf (base_of n epoch)) old new) where
  reads_agree : AgreesOutside (InHalf (base_of n epoch)) (reads old) (reads new)
  reads_agree = (Touches-present (InHalf (base_of n epoch)) old new touched).others

  holds_depend : (blocks : List Written) → AllByRecursion (λ (b : Written). IsIn n Data b.0) blocks → DependsOn (λ i. IsIn n Data (i / 8)) (λ c. HoldsAll (store_of c) blocks)
  holds_depend [] lie c d whole_c whole_d agrees holds = tt
  holds_depend (b ∷ bs) lie c d whole_c whole_d agrees holds = (
    bytes_at-same c d (8 * b.0) 8 (λ i from to. agrees.same i (let of_block : b.0 ≡ i / 8 = omega (arith, from, to) in subst (IsIn n Data) of_block lie.0)) ∙ holds.0,
    holds_depend bs lie.1 c d whole_c whole_d agrees holds.1,
  )

  log_not_data : AreDisjoint (InHalf (base_of n epoch)) (λ i. IsIn n Data (i / 8))
  log_not_data i is placed = omega (arith, is.1, (halves_are n epoch).1, end_from n (half_of_epoch epoch), placed.from)

  log_not_map : (slot : Slot) → AreDisjoint (InHalf (base_of n epoch)) (InMap n slot)
  log_not_map slot i is in_map = (areas_apart n).maps_and_log slot epoch i in_map is

  log_not_roots : AreDisjoint (InHalf (base_of n epoch)) InRoots
  log_not_roots i is roots = (areas_apart n).roots_and_log epoch i roots is

  map_depends : (slot : Slot) (words : List ℕ) → DependsOn (InMap n slot) (λ c. HasMap n c slot words)
  map_depends slot words c d whole_c whole_d agrees has = HasMap-same n c d slot words (λ i from to. agrees.same i (from, to)) has

  closed_depends : (slot : Slot) → DependsOn InRoots (λ c. IsClosed c (gate_sector slot))
  closed_depends slot c d whole_c whole_d agrees shut = closed-same c d (gate_sector slot) (agrees.same (gate_sector slot) (omega (arith, gate_from slot), omega (arith, gate_below slot))) shut

  root_depends : (slot : Slot) (root : RootBody) → DependsOn InRoots (λ c. HasRoot c slot root)
  root_depends slot root c d whole_c whole_d agrees has = HasRoot-same c d slot root (λ i from to. agrees.same i (omega (arith, from, body_from slot), omega (arith, to, body_below slot))) has

  stored_kept : (slot : Slot) (plan : Plan) → AllByRecursion (λ (b : Written). IsIn n Data b.0) plan.blocks → IsStored n old slot plan → IsStored n new slot plan
  stored_kept slot plan lie stored = record {
    blocks = Always-kept (InHalf (base_of n epoch)) (λ i. IsIn n Data (i / 8)) (λ c. HoldsAll (store_of c) plan.blocks) (holds_depend plan.blocks lie) log_not_data old new whole stored.blocks touched;
    map = Always-kept (InHalf (base_of n epoch)) (InMap n slot) (λ c. HasMap n c slot plan.words) (map_depends slot plan.words) (log_not_map slot) old new whole stored.map touched;
  }

  shut_kept : (slot : Slot) → Always old (λ c. IsClosed c (gate_sector slot)) → Always new (λ c. IsClosed c (gate_sector slot))
  shut_kept slot shut = Always-kept (InHalf (base_of n epoch)) InRoots (λ c. IsClosed c (gate_sector slot)) (closed_depends slot) log_not_roots old new whole shut touched

  root_kept : (slot : Slot) (root : RootBody) → Always old (λ c. HasRoot c slot root) → Always new (λ c. HasRoot c slot root)
  root_kept slot root has = Always-kept (InHalf (base_of n epoch)) InRoots (λ c. HasRoot c slot root) (root_depends slot root) log_not_roots old new whole has touched

  map_block_from : (slot : Slot) (k : ℕ) → k < map_blocks n → (i : ℕ) → 8 * (start_of n (MapCopy slot) + k) ≤ i → i < 8 * (start_of n (MapCopy slot) + k) + 8 → InMap n slot i
  map_block_from slot k within i from to = (omega (arith, from), omega (arith, to, within))

  pub reached_kept : (slot : Slot) (plan : Plan) (stage : Stage) → AllByRecursion (λ (b : Written). IsIn n Data b.0) plan.blocks → HasReached n old slot plan stage → HasReached n new slot plan stage
  reached_kept slot plan (Blocks k) lie holds = holds_same n epoch (reads old) (reads new) (take k plan.blocks) reads_agree (lie_first n k plan.blocks lie) holds
  reached_kept slot plan (MapBlocks count) lie (few, holds, has) = (
    few,
    holds_same n epoch (reads old) (reads new) plan.blocks reads_agree lie holds,
    λ k before. bytes_at-same (reads old) (reads new) (8 * (start_of n (MapCopy slot) + k)) 8
        (λ i from to. reads_agree.same i (λ is. log_not_map slot i is (map_block_from slot k (omega (arith, before, few)) i from to))) ∙ has k before,
  )
  reached_kept slot plan Stored lie stored = stored_kept slot plan lie stored
  reached_kept slot plan Shut lie (stored, shut) = (stored_kept slot plan lie stored, shut_kept slot shut)
  reached_kept slot plan Bodied lie (stored, shut, body) = (stored_kept slot plan lie stored, shut_kept slot shut, root_kept slot plan.next body)
