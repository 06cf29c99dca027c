-- How far a point is, step by step.
use Rattle.std.proofs.Common.{◌≡◌, ◌≢◌, ⊎_elim, ℕ, zero, suc, ◌+◌, ◌*◌, ◌<◌, List, [], ◌∷◌, length, take, refl, sym, subst, ◌∙◌, arith}
use Rattle.std.specs.List.{AllByRecursion}
use Rattle.std.proofs.lemmas.Bool.{cases_eq}
use Rattle.sn_device.specs.Sectors.{Contents, AreSectors, AgreesOutside}
use Rattle.sn_device.specs.Disk.{Disk, Always, IsSynced, reads}
use Rattle.sn_device.specs.Crash.{Touches}
use Rattle.sn_device.proofs.CrashLemmas.{Touches-present, Always-synced, Always-reads}
use Rattle.sn_layout.specs.Bytes.{AreNumbers}
use Rattle.sn_layout.specs.MapCopy.{map_block_bytes}
use Rattle.sn_layout.specs.declared.geometry.Area.TheVariants.{Data, MapCopy}
use Rattle.sn_layout.specs.declared.geometry.Slot.{Slot}
use Rattle.sn_layout.specs.declared.geometry.Slot.TheVariants.{A, B}
use Rattle.sn_layout.specs.Geometry.{IsIn, start_of, map_blocks}
use Rattle.sn_ondisk.specs.Blocks.{InBlock, block_at}
use Rattle.sn_ondisk.specs.MapCopy.{HasMap}
use Rattle.sn_ondisk.specs.MapLaws.{words_of_block}
use Rattle.sn_ondisk.specs.Trees.{Store, store_of}
use Rattle.sn_ondisk.proofs.BlockLemmas.{bytes_at-same}
use Rattle.sn_ondisk.proofs.MapBlockLemmas.{blocks_make}
use Rattle.sn_layout.specs.declared.root.RootBody.{RootBody}
use Rattle.sn_log.specs.Positions.{payloads_of}
use Rattle.sn_model.specs.declared.change.Change.{Change}
use Rattle.sn_model.specs.World.{Trees}
use Rattle.sn_ondisk.specs.Shown.{Shown}
use Rattle.sn_ondisk.specs.TreeLaws.{SameIn}
use Rattle.sn_opening.specs.Worlds.{all_reach}
use Rattle.sn_opening.specs.Opens.{Shows}
use Rattle.sn_opening.specs.PointLaws.{NextStands}
use Rattle.sn_opening.specs.Points.{Written, Plan, Blocks, MapBlocks, Stored, HoldsAll, HasReached, IsBuilt, IsStored, StandsAt}

-- a block beside the one that is written
beside : (c d : Contents) (at block : ℕ) → AgreesOutside (InBlock at) c d → block ≢ at → block_at d block ≡ block_at c block
beside c d at block agrees other =
    bytes_at-same c d (8 * block) 8 (λ i from to. agrees.same i (λ is. other (omega (arith, from, to, is.0, is.1))))

reached_more : (c d : Contents) (blocks : List Written) (k : ℕ) (b : Written) → StandsAt blocks k b → AllByRecursion (λ (x : Written). x.0 ≢ b.0) (take k blocks)
    → AgreesOutside (InBlock b.0) c d → block_at d b.0 ≡ b.1 → HoldsAll (store_of c) (take k blocks) → HoldsAll (store_of d) (take (suc k) blocks)
reached_more c d [] k b at apart agrees is holds = absurd at
reached_more c d (x ∷ []) zero b at apart agrees is holds = (subst (λ (y : Written). block_at d y.0 ≡ y.1) (sym at) is, tt)
reached_more c d (x ∷ y ∷ ys) zero b at apart agrees is holds = (subst (λ (y : Written). block_at d y.0 ≡ y.1) (sym at) is, tt)
reached_more c d (x ∷ xs) (suc k) b at apart agrees is holds = (beside c d b.0 x.0 agrees apart.0 ∙ holds.0, reached_more c d xs k b at apart.1 agrees is holds.1)

pub block_reached : (n k : ℕ) (slot : Slot) (plan : Plan) (b : Written) (old new : Disk) → StandsAt plan.blocks k b
    → AllByRecursion (λ (x : Written). x.0 ≢ b.0) (take k plan.blocks)
    → Touches (InBlock b.0) old new → block_at (reads new) b.0 ≡ b.1
    → HasReached n old slot plan (Blocks k) → HasReached n new slot plan (Blocks (suc k))
block_reached n k slot plan b old new at apart touched is holds =
    reached_more (reads old) (reads new) plan.blocks k b at apart (Touches-present (InBlock b.0) old new touched).others is holds

-- ---- the map

map_below : (n k : ℕ) (slot : Slot) → k < map_blocks n → start_of n (MapCopy slot) + k < start_of n Data
map_below n k A within = omega (arith, within)
map_below n k B within = omega (arith, within)

held : (n at : ℕ) (c d : Contents) (blocks : List Written) → AgreesOutside (InBlock at) c d → at < start_of n Data → AllByRecursion (λ (b : Written). IsIn n Data b.0) blocks → HoldsAll (store_of c) blocks → HoldsAll (store_of d) blocks
held n at c d [] agrees below lie holds = tt
held n at c d (b ∷ bs) agrees below lie holds =
    (beside c d at b.0 agrees (λ same. omega (arith, same, below, lie.0.from)) ∙ holds.0, held n at c d bs agrees below lie.1 holds.1)

pub map_block_reached : (n k : ℕ) (slot : Slot) (plan : Plan) (old new : Disk) → AllByRecursion (λ (b : Written). IsIn n Data b.0) plan.blocks → k < map_blocks n
    → Touches (InBlock (start_of n (MapCopy slot) + k)) old new → block_at (reads new) (start_of n (MapCopy slot) + k) ≡ map_block_bytes (words_of_block k plan.words)
    → HasReached n old slot plan (MapBlocks k) → HasReached n new slot plan (MapBlocks (k + 1))
map_block_reached n k slot plan old new lie within touched is (few, holds, has) =
    let at = start_of n (MapCopy slot) + k in
    let agrees = (Touches-present (InBlock at) old new touched).others in (
      omega (arith, within),
      held n at (reads old) (reads new) plan.blocks agrees (map_below n k slot within) lie holds,
      λ j before. ⊎_elim
          (λ (same : j ≡ k). subst (λ (m : ℕ). block_at (reads new) (start_of n (MapCopy slot) + m) ≡ map_block_bytes (words_of_block m plan.words)) (sym same) is)
          (λ (other : j ≢ k). beside (reads old) (reads new) at (start_of n (MapCopy slot) + j) agrees (λ same. other (omega (arith, same))) ∙ has j (below_of j before other))
          (cases_eq j k),
    )
  where
    below_of : (j : ℕ) → j < k + 1 → j ≢ k → j < k
    below_of j before other = grind (arith, before, other)

pub sync_stores : (n : ℕ) (slot : Slot) (plan : Plan) (d : Disk) → IsSynced d → length plan.words ≡ n → AreNumbers 4 plan.words
    → HasReached n d slot plan (MapBlocks (map_blocks n)) → HasReached n d slot plan Stored
sync_stores n slot plan d synced count fits (few, holds, has) = record {
  blocks = Always-synced d (λ c. HoldsAll (store_of c) plan.blocks) synced holds;
  map = Always-synced d (λ c. HasMap n c slot plan.words) synced (blocks_make n (reads d) slot plan.words count fits has);
}

-- ---- done

pub done_stands : (n : ℕ) (s : Store) (slot : Slot) (root : RootBody) (newer : List Change) (trees : Trees) (plan : Plan) (d : Disk) → AreSectors (reads d) → IsSynced d
    → IsBuilt n s root trees plan → IsStored n d slot plan → Always d (λ c. SameIn (all_reach s root) s (store_of c))
    → Always d (λ c. Shown n c slot plan.next (payloads_of newer) [])
    → NextStands n slot plan.next.limits plan.next newer trees.live d
done_stands n s slot root newer trees plan d whole synced built stored same shown =
    let now = Always-reads d (λ c. SameIn (all_reach s root) s (store_of c)) whole same in
    let blocks = Always-reads d (λ c. HoldsAll (store_of c) plan.blocks) whole stored.blocks in
    let here = Always-reads d (λ c. Shown n c slot plan.next (payloads_of newer) []) whole shown in
    record {
      shows = Always-synced d (Shows n (store_of (reads d)) slot plan.next newer []) synced (record { shown = here; same = λ block among. refl });
      tree = built.tree (store_of (reads d)) now blocks;
      sound = built.sound (store_of (reads d)) now blocks;
    }
