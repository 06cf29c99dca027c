-- What a mount costs, step by step, and what a recovery that isn't made makes of it.
use Rattle.std.proofs.Common.{◌≡◌, inl, inr, ℕ, ◌+◌, ◌*◌, ◌≤◌, Bool, true, false, ap, ◌∙◌, arith}
use Rattle.sn_block.specs.Counts.{called}
use Rattle.sn_block.proofs.CountLemmas.{called-after}
use Rattle.sn_device.specs.declared.status.Status.{Status}
use Rattle.sn_layout.specs.declared.gate.Gate.TheVariants.{Open}
use Rattle.sn_cp_whole.specs.Making.{syncs_of_point, writes_of_point}
use Rattle.sn_cp_whole.specs.Recovering.{syncs_of_steps, writes_of_steps}
use Rattle.sn_mount.specs.Costs.{CostsFew, CostsFound, CostsMount, CostsNext}

-- ---- what all costs

pub mount_costs : (recovers : Bool) (n : ℕ) (old synced found rooted new : Status) → synced ≡ called 0 1 old → found ≡ synced → CostsNext recovers n found rooted → new ≡ called 1 1 rooted → CostsFound recovers n old new
mount_costs false n old synced found rooted new first same stays last = called-after 0 1 1 1 old rooted new (stays ∙ same ∙ first) last
mount_costs true n old synced found rooted new first same (count, within, gate, is) last =
    let middle : rooted ≡ called (0 + writes_of_steps n gate count) (1 + syncs_of_steps gate) old = called-after 0 1 (writes_of_steps n gate count) (syncs_of_steps gate) old found rooted (same ∙ first) is in
    let all = called-after (0 + writes_of_steps n gate count) (1 + syncs_of_steps gate) 1 1 old rooted new middle last in
    let writes : 0 + writes_of_steps n gate count + 1 ≡ writes_of_point n gate count = omega arith in
    let syncs : 1 + syncs_of_steps gate + 1 ≡ 1 + syncs_of_point gate = omega arith in
    (count, within, gate, all ∙ (λ i. called (writes i) (syncs i) old))

pub some_cost : (recovers : Bool) (n : ℕ) (old new : Status) → CostsFound recovers n old new → CostsMount n old new
some_cost false n old new costs = inl costs
some_cost true n old new costs = inr costs

pub few_costs : (n : ℕ) (old synced found rooted new : Status) → 8 * n ≤ old.sectors → (synced.writes ≤ old.writes) × (synced.syncs ≤ old.syncs + 1) → found ≡ synced → (rooted.writes ≤ found.writes + writes_of_steps n Open n) × (rooted.syncs ≤ found.syncs + syncs_of_steps Open)
    → (new.writes ≤ rooted.writes + 1) × (new.syncs ≤ rooted.syncs + 1) → CostsFew old new
few_costs n old synced found rooted new within first same middle last =
    let writes = ap (λ (s : Status). s.writes) same in
    let syncs = ap (λ (s : Status). s.syncs) same in
    record { blocks = n; within = within; costs = record { writes = omega (arith, first.0, writes, middle.0, last.0); syncs = omega (arith, first.1, syncs, middle.1, last.1) } }
