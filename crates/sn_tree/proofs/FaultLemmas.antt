-- Pointers that lead outside the device.
use Rattle.std.proofs.Common.{◌≡◌, ◌≢◌, ℕ, suc, ◌-◌, false, List, [], ◌∷◌, ◌++◌, subst, arith, Option}
use Rattle.sn_ondisk.specs.Trees.{Store, below, all_pointers}
use Rattle.sn_tree_read.specs.Paths.{lies_on, block_named}
use Rattle.sn_tree.specs.Steps.{LeadsOutside, LeadsOutsideAt}
use Rattle.sn_ondisk.proofs.CountLemmas.{times-same, times-down, times-all_append}

-- ---- pointers that lead outside

pub no_hole : (sectors pointer : ℕ) → lies_on sectors pointer ≡ false → pointer ≢ 0
no_hole sectors pointer outside hole = let at : lies_on sectors 0 ≡ false = subst (λ (p : ℕ). lies_on sectors p ≡ false) hole outside in absurd cc

pub outside_here : {at : Option ℕ} (sectors : ℕ) (s : Store) (depth pointer : ℕ) → (lies_on sectors pointer ≡ false) × (at ≡ block_named pointer) → LeadsOutsideAt sectors (all_pointers s (suc depth) (pointer ∷ [])) at
outside_here sectors s depth pointer off = record {
  block = pointer;
  some = no_hole sectors pointer off.0;
  among = omega (arith, times-down s pointer depth pointer, times-same pointer);
  outside = off.0;
  met = off.1;
}

pub outside_below : {at : Option ℕ} (sectors : ℕ) (s : Store) (depth pointer : ℕ) → LeadsOutsideAt sectors (all_pointers s depth (below s pointer)) at → LeadsOutsideAt sectors (all_pointers s (suc depth) (pointer ∷ [])) at
outside_below sectors s depth pointer leads = record {
  block = leads.block;
  some = leads.some;
  among = omega (arith, times-down s leads.block depth pointer, leads.among);
  outside = leads.outside;
  met = leads.met;
}

pub outside_among : {at : Option ℕ} (sectors : ℕ) (s : Store) (depth : ℕ) (front back : List ℕ) (pointer : ℕ) → LeadsOutsideAt sectors (all_pointers s depth (pointer ∷ [])) at → LeadsOutsideAt sectors (all_pointers s depth (front ++ (pointer ∷ back))) at
outside_among sectors s depth front back pointer leads = record {
  block = leads.block;
  some = leads.some;
  among = omega (arith, times-all_append s leads.block depth front (pointer ∷ back), times-all_append s leads.block depth (pointer ∷ []) back, leads.among);
  outside = leads.outside;
  met = leads.met;
}

-- one of the pointers that were read from an indirect block, over a device that still tells what it told
pub outside_indirect : {at : Option ℕ} (sectors many : ℕ) (s r : Store) (up pointer : ℕ) (pointers : List ℕ) → up ≢ 0 → many ≡ sectors → r ≡ s → pointers ≡ below s pointer → LeadsOutsideAt many (all_pointers r (up - 1) pointers) at → LeadsOutsideAt sectors (all_pointers s up (pointer ∷ [])) at
outside_indirect {at = at} sectors many s r up pointer pointers some same_sectors same read leads =
    let next : suc (up - 1) ≡ up = omega (arith, some) in
    subst (λ (d : ℕ). LeadsOutsideAt sectors (all_pointers s d (pointer ∷ [])) at) next
    (outside_below sectors s (up - 1) pointer
    (subst (λ (qs : List ℕ). LeadsOutsideAt sectors (all_pointers s (up - 1) qs) at) read
    (subst (λ (q : Store). LeadsOutsideAt sectors (all_pointers q (up - 1) pointers) at) same
    (subst (λ (n : ℕ). LeadsOutsideAt n (all_pointers r (up - 1) pointers) at) same_sectors leads))))

-- without the block that it names
pub leads_outside : {at : Option ℕ} {sectors : ℕ} {pointers : List ℕ} → LeadsOutsideAt sectors pointers at → LeadsOutside sectors pointers
leads_outside leads = record { block = leads.block; some = leads.some; among = leads.among; outside = leads.outside }
