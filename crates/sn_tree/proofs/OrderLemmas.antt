-- Dirty blocks that are looked at one after the other.
use Rattle.std.proofs.Common.{◌↔◌, ℕ, zero, suc, ◌+◌, ◌*◌, ◌<◌, ◌≤◌, List, [], ◌∷◌, length, drop, get_or, arith}
use Rattle.std.specs.List.{AllByRecursion}
use Rattle.sn_tree.specs.Dirty.{IsFrom}
use Rattle.sn_tree.specs.Orders.{AreInOrder}
use Rattle.sn_tree.specs.declared.new_block.DirtyBlock.{DirtyBlock}

-- those that are left, from an index on
pub record AreLeft (size least : ℕ) (dirty : List DirtyBlock) : Type 0 where
  pub rise : IsFrom least dirty
  pub begins : AllByRecursion (λ (d : DirtyBlock). 4096 * d.index < size) dirty

pub left_all : (size : ℕ) (ds : List DirtyBlock) → AreInOrder size ds ↔ AreLeft size 0 ds
left_all size ds = (λ all. record { rise = all.rise; begins = all.begins }, λ left. record { rise = left.rise; begins = left.begins })

pub left_none : (size least k : ℕ) (ds : List DirtyBlock) → length ds ≤ k → AreLeft size least (drop k ds)
left_none size least zero [] past = record { rise = tt; begins = tt }
left_none size least (suc k) [] past = record { rise = tt; begins = tt }
left_none size least zero (d ∷ ds) past = absurd (omega (arith, past))
left_none size least (suc k) (d ∷ ds) past = left_none size least k ds (omega (arith, past))

-- the next one, and those after it
pub left_next : (size least k : ℕ) (ds : List DirtyBlock) (z : DirtyBlock) → k < length ds
    → AreLeft size least (drop k ds) ↔ ((least ≤ (get_or ds k z).index) × (4096 * (get_or ds k z).index < size) × AreLeft size ((get_or ds k z).index + 1) (drop (suc k) ds))
left_next size least k [] z within = absurd (omega (arith, within))
left_next size least zero (d ∷ ds) z within = (
  λ left. (left.rise.0, left.begins.0, record { rise = left.rise.1; begins = left.begins.1 }),
  λ (low, under, more). record { rise = (low, more.rise); begins = (under, more.begins) },
)
left_next size least (suc k) (d ∷ ds) z within = left_next size least k ds z (omega (arith, within))
