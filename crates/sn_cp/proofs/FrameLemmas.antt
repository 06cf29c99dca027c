-- What a step of a point leaves alone.
use Rattle.std.proofs.Common.{◌≡◌, ℕ, ◌+◌, ◌*◌, ◌<◌, ◌≤◌, List, [], ◌∷◌, sym, ◌∙◌, arith}
use Rattle.std.specs.List.{AllByRecursion}
use Rattle.sn_device.specs.Sectors.{Contents, AreSectors, AreDisjoint, DependsOn, Single}
use Rattle.sn_device.specs.Disk.{Disk, Always, reads}
use Rattle.sn_device.specs.Crash.{Touches}
use Rattle.sn_device.proofs.CrashLemmas.{Always-kept}
use Rattle.sn_layout.specs.declared.gate.Gate.{Gate}
use Rattle.sn_layout.specs.declared.gate.Gate.TheVariants.{Open, Closed}
use Rattle.sn_layout.specs.declared.geometry.Area.TheVariants.{Data, MapCopy}
use Rattle.sn_layout.specs.declared.geometry.Slot.{Slot}
use Rattle.sn_layout.specs.declared.geometry.Slot.TheVariants.{A, B}
use Rattle.sn_layout.specs.Geometry.{IsIn, start_of, gate_sector}
use Rattle.sn_ondisk.specs.Blocks.{InBlock}
use Rattle.sn_ondisk.specs.Gates.{IsClosed}
use Rattle.sn_ondisk.specs.MapCopy.{HasMap}
use Rattle.sn_ondisk.specs.Roots.{body_block}
use Rattle.sn_ondisk.specs.Trees.{store_of}
use Rattle.sn_ondisk.proofs.BlockLemmas.{bytes_at-same}
use Rattle.sn_ondisk.proofs.MapLemmas.{HasMap-same}
use Rattle.sn_ondisk.proofs.RootLemmas.{body_below, gate_below}
use Rattle.sn_root.specs.Replacing.{InClosing}
use Rattle.sn_root.specs.Slots.{gate_in}
use Rattle.sn_root.proofs.ReplacingLemmas.{gate_depends}
use Rattle.sn_root.proofs.SlotLemmas.{open_in}
use Rattle.sn_opening.specs.Points.{HoldsAll, IsStored, Plan, Written}

-- ---- where things are

-- the sectors after superblock, bodies and gates
abbrev pub FromMaps : ℕ → Type 0
FromMaps i = 32 ≤ i

pub map_start : (n : ℕ) (slot : Slot) → 4 ≤ start_of n (MapCopy slot)
map_start n A = omega arith
map_start n B = omega arith

pub closing_low : (slot : Slot) (gate : Gate) (i : ℕ) → InClosing slot gate i → i < 32
closing_low slot Open i is = let below = gate_below slot in omega (arith, is, below)
closing_low slot Closed i none = absurd none

pub gate_low : (slot : Slot) (i : ℕ) → Single (gate_sector slot) i → i < 32
gate_low slot i is = let below = gate_below slot in omega (arith, is, below)

pub body_low : (slot : Slot) (i : ℕ) → InBlock (body_block slot) i → i < 32
body_low slot i is = let below = body_below slot in omega (arith, is.1, below)

pub block_and_gate : (n block : ℕ) (slot : Slot) → IsIn n Data block → AreDisjoint (InBlock block) (Single (gate_sector slot))
block_and_gate n block slot lie i is same = let below = gate_below slot in omega (arith, is.0, same, below, lie.from)

pub map_and_gate : (n k : ℕ) (slot other : Slot) → AreDisjoint (InBlock (start_of n (MapCopy slot) + k)) (Single (gate_sector other))
map_and_gate n k slot other i is same = let below = gate_below other in let start = map_start n slot in omega (arith, is.0, same, below, start)

-- ---- what is there stays

pub holds_depend : (n : ℕ) (blocks : List Written) → AllByRecursion (λ (b : Written). IsIn n Data b.0) blocks → DependsOn FromMaps (λ c. HoldsAll (store_of c) blocks)
holds_depend n [] lie c d whole_c whole_d agrees holds = tt
holds_depend n (b ∷ bs) lie c d whole_c whole_d agrees holds =
    (bytes_at-same c d (8 * b.0) 8 (λ i from to. agrees.same i (omega (arith, from, lie.0.from))) ∙ holds.0, holds_depend n bs lie.1 c d whole_c whole_d agrees holds.1)

pub map_depends : (n : ℕ) (slot : Slot) (words : List ℕ) → DependsOn FromMaps (λ c. HasMap n c slot words)
map_depends n slot words c d whole_c whole_d agrees has = HasMap-same n c d slot words (λ i from to. agrees.same i (let start = map_start n slot in omega (arith, from, start))) has

module _ (F : ℕ → Type 0) (old new : Disk) (whole : AreSectors (reads old)) (touched : Touches F old new) where
  -- blocks and map outlive what is written before them
  pub stored_stays : (n : ℕ) (slot : Slot) (plan : Plan) → ((i : ℕ) → F i → i < 32) → AllByRecursion (λ (b : Written). IsIn n Data b.0) plan.blocks → IsStored n old slot plan → IsStored n new slot plan
  stored_stays n slot plan low lie stored =
      let apart : AreDisjoint F FromMaps = λ i is from. let below = low i is in omega (arith, below, from) in
      record {
        blocks = Always-kept F FromMaps (λ c. HoldsAll (store_of c) plan.blocks) (holds_depend n plan.blocks lie) apart old new whole stored.blocks touched;
        map = Always-kept F FromMaps (λ c. HasMap n c slot plan.words) (map_depends n slot plan.words) apart old new whole stored.map touched;
      }

  pub gate_stays : (slot : Slot) (gate : Gate) → AreDisjoint F (Single (gate_sector slot)) → Always old (λ c. gate_in c slot ≡ gate) → Always new (λ c. gate_in c slot ≡ gate)
  gate_stays slot gate apart here = Always-kept F (Single (gate_sector slot)) (λ c. gate_in c slot ≡ gate) (gate_depends slot gate) apart old new whole here touched

-- a gate that is read as closed is
pub is_closed_in : (c : Contents) (slot : Slot) → gate_in c slot ≡ Closed → IsClosed c (gate_sector slot)
is_closed_in c slot e opened = never (sym (open_in c slot opened) ∙ e)
  where
    never : Open ≡ Closed → ⊥
    never e = cc
