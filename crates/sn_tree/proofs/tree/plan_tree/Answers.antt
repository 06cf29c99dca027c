use Rattle.std.proofs.Common.{◌≡◌, ℕ, ◌+◌, ◌*◌, ◌<◌, ◌≤◌, List, length, sym, ap, subst, ◌∙◌, arith, IsTrue}
use Rattle.std.specs.Prelude.{◌^◌, Err}
use Rattle.std.proofs.lemmas.Result.{err_from_is_err_and}
use Rattle.sn_device.specs.Disk.{Disk, reads}
use Rattle.sn_block.specs.Lending.{device_of}
use Rattle.sn_layout.specs.Pointers.{levels_of}
use Rattle.sn_layout.specs.declared.tree.BlockTree.{BlockTree}
use Rattle.sn_ondisk.specs.Trees.{Store, store_of, all_pointers}
use Rattle.sn_tree_read.specs.declared.fault.TreeFault.TheVariants.{Damaged}
use Rattle.sn_tree.specs.Dirty.{IsFrom}
use Rattle.sn_tree.specs.Drafts.{Draft}
use Rattle.sn_tree.specs.Fronts.{data_or, AreHolesFrom, IsFirstOf, PlannedFront}
use Rattle.sn_tree.specs.Plans.{contents}
use Rattle.sn_tree.specs.Steps.{LeadsOutsideAt, Planned}
use Rattle.sn_tree.specs.declared.fault.PlanFault.TheVariants.{Tree, Full}
use Rattle.sn_tree.specs.declared.new_block.DirtyBlock.{DirtyBlock}
use Rattle.sn_tree.proofs.SpanLemmas.{span_most}
use Rattle.sn_tree.proofs.DirtyLemmas.{IsFrom-after}
use Rattle.sn_tree.proofs.FrontLemmas.{most_added-front, front_most-whole}
use Rattle.sn_tree.proofs.LevelLemmas.{first_outside, first_full, aim, front_begun, front_planned}
use Rattle.sn_tree.proofs.ReplannedLemmas.{hole-past, tree_outside}
use Rattle.sn_tree.proofs.StepLemmas.{planned_still}
use Rattle.sn_tree.proofs.tree.plan_tree.Goals as goal

-- sixteen pointers at a height
ends_at : (n width : ℕ) → n ≡ 16 → 0 + n * width ≡ 16 * width
ends_at n width is = let all : n * width ≡ 16 * width = ap (λ k. k * width) is in omega (arith, all)

-- the first sixteen pointers, as they were planned
first_planned : (Told : Type 0) (s t : Store) (tree : BlockTree) (keep : ℕ) (items : List DirtyBlock) (draft : Draft) (least : ℕ) (pointers news : List ℕ) (left : List DirtyBlock) (between behind : Draft) → length pointers ≡ 16 → (Told → t ≡ s) → IsFirstOf Told s tree least pointers draft between
    → Planned Told t (all_pointers t least pointers) (contents t least pointers) least 0 (0 + length pointers * 1024 ^ least) keep items left news between behind → PlannedFront Told (aim s tree keep items draft) least (16 * 1024 ^ least) left news behind
first_planned Told s t tree keep items draft least pointers news left between behind count same first step =
    let end = 0 + length pointers * 1024 ^ least in
    let ends = ends_at (length pointers) (1024 ^ least) count in
    subst (λ (n : ℕ). PlannedFront Told (aim s tree keep items draft) least n left news behind) ends
    (front_begun s tree keep items draft Told least end pointers news left between behind count ends first
    (planned_still Told s t keep least 0 end pointers news items left between behind same step))

-- a tree that gets more levels has no data blocks past its own
holes_past : (s : Store) (tree : BlockTree) (least levels : ℕ) → length tree.pointers ≡ 16 → (least < levels → least ≡ levels_of tree.size) → least < levels → AreHolesFrom (16 * 1024 ^ least) (λ hole i. data_or hole s tree i)
holes_past s tree least levels count lowest more hole i past =
    hole-past s tree hole count i (subst (λ (n : ℕ). 16 * 1024 ^ n ≤ i) (lowest more) past)

pub plan_pointers-requires-clause-room : goal.plan_pointers-requires-clause-room
plan_pointers-requires-clause-room g c =
    let least = c.min-least.result in
    let few : least ≤ 3 = omega (arith, c.min-least.ensures, c.levels_of-levels.ensures.most) in
    omega (arith, ends_at (length c.in_ok-pointers.pointers) (1024 ^ least) c.in_ok-pointers.ensures.count, span_most least few)

pub raised-requires-clause-rise : goal.raised-requires-clause-rise
raised-requires-clause-rise g c =
    let least = c.min-least.result in
    let end = 0 + length c.in_ok-pointers.pointers * 1024 ^ least in
    let ends = ends_at (length c.in_ok-pointers.pointers) (1024 ^ least) c.in_ok-pointers.ensures.count in
    subst (λ (n : ℕ). IsFrom n c.plan_pointers.new.dirty.items) ends
    (subst (λ (l : List DirtyBlock). IsFrom end l) (sym c.in_ok-plan_pointers.ensures.planned.rest) (IsFrom-after 0 end c.args.dirty.blocks.items c.requires.rise))

pub returns-in_err-pointers-clause-full : goal.returns-in_err-pointers-clause-full
returns-in_err-pointers-clause-full g c = λ is.
    let f = err_from_is_err_and c.from_residual.result c.from_residual.ensures.1 in
    let fault : c.in_err-pointers.field-0.0 ≡ Full = cc (f.1, f.2) in
    let few = c.in_err-pointers.ensures.full (ap (λ fault. Err fault) fault) in
    omega (arith, few)

pub returns-in_err-plan_pointers-clause-full : goal.returns-in_err-plan_pointers-clause-full
returns-in_err-plan_pointers-clause-full g c = λ is.
    let Told = IsTrue g.D.Device.tells_bytes in
    let s = store_of (reads (g.D.Device.disk (device_of c.args.blocks.now))) in
    let items = c.args.dirty.blocks.items in
    let keep = c.args.dirty.keep in
    let least = c.min-least.result in
    let end = 0 + length c.in_ok-pointers.pointers * 1024 ^ least in
    let f = err_from_is_err_and c.from_residual-in_err-plan_pointers.result c.from_residual-in_err-plan_pointers.ensures.1 in
    let fault : c.in_err-plan_pointers.field-0.0 ≡ Full = cc (f.1, f.2) in
    let few = first_full Told s c.args.tree.now least _ c.in_ok-pointers.pointers c.args.build.now c.lowered.new.build c.in_ok-pointers.ensures.lowered (c.in_err-plan_pointers.ensures.full (ap (λ fault. Err fault) fault)) in
    let front = most_added-front least 0 end keep items in
    let low : least ≤ levels_of c.args.dirty.size = omega (arith, c.min-least.ensures, c.levels_of-levels.ensures.value) in
    omega (arith, few, front, front_most-whole least end (levels_of c.args.dirty.size) items low)

pub returns-in_err-plan_pointers-clause-damaged : goal.returns-in_err-plan_pointers-clause-damaged
returns-in_err-plan_pointers-clause-damaged g c told block is =
    let Told = IsTrue g.D.Device.tells_bytes in
    let sectors = (g.D.Device.status (device_of c.args.blocks.now)).sectors in
    let s = store_of (reads (g.D.Device.disk (device_of c.args.blocks.now))) in
    let t = store_of (reads (g.D.Device.disk (device_of c.lowered.new.blocks))) in
    let least = c.min-least.result in
    let pointers = c.in_ok-pointers.pointers in
    let f = err_from_is_err_and c.from_residual-in_err-plan_pointers.result c.from_residual-in_err-plan_pointers.ensures.1 in
    let fault : c.in_err-plan_pointers.field-0.0 ≡ Tree (Damaged block) = cc (f.1, f.2) in
    let leads = c.in_err-plan_pointers.ensures.damaged told block (ap (λ fault. Err fault) fault) in
    let same : t ≡ s = ap (λ (d : Disk). store_of (reads d)) (c.lowered.ensures.same told) in
    tree_outside s c.args.tree.now sectors
    (first_outside Told s c.args.tree.now least sectors pointers c.args.build.now c.lowered.new.build c.in_ok-pointers.ensures.lowered told
    (subst (λ (q : Store). LeadsOutsideAt sectors (all_pointers q least pointers) block) same
    (subst (λ (n : ℕ). LeadsOutsideAt n (all_pointers t least pointers) block) c.lowered.ensures.counts.sectors leads)))

pub returns-in_err-tops-clause-full : goal.returns-in_err-tops-clause-full
returns-in_err-tops-clause-full g c = λ is.
    let Told = IsTrue g.D.Device.tells_bytes in
    let s = store_of (reads (g.D.Device.disk (device_of c.args.blocks.now))) in
    let t = store_of (reads (g.D.Device.disk (device_of c.lowered.new.blocks))) in
    let tree = c.args.tree.now in
    let keep = c.args.dirty.keep in
    let items = c.args.dirty.blocks.items in
    let least = c.min-least.result in
    let levels = c.levels_of-levels.result in
    let pointers = c.in_ok-pointers.pointers in
    let news = c.plan_pointers.new.pointers in
    let left = c.plan_pointers.new.dirty.items in
    let same : Told → t ≡ s = (λ told. ap (λ (d : Disk). store_of (reads d)) (c.lowered.ensures.same told)) in
    let lowest : least < levels → least ≡ levels_of tree.size = (λ more. omega (arith, more, c.min-least.ensures, c.levels_of.ensures.value)) in
    let whole = first_planned Told s t tree keep items c.args.build.now least pointers news left c.lowered.new.build c.plan_pointers.new.build c.in_ok-pointers.ensures.count same c.in_ok-pointers.ensures.lowered c.in_ok-plan_pointers.ensures.planned in
    let f = err_from_is_err_and c.from_residual-in_err-tops.result c.from_residual-in_err-tops.ensures.1 in
    let fault : c.in_err-tops.field-0.0 ≡ Full = cc (f.1, f.2) in
    let few = c.in_err-tops.ensures.full (aim s tree keep items c.args.build.now) (holes_past s tree least levels c.lowered.ensures.sixteen lowest) whole (ap (λ fault. Err fault) fault) in
    let bound : (levels + 1) * (length items + 1) ≡ (levels_of c.args.dirty.size + 1) * (length items + 1) = ap (λ (n : ℕ). (n + 1) * (length items + 1)) c.levels_of-levels.ensures.value in
    omega (arith, few, bound)

pub returns-clause-planned : goal.returns-clause-planned
returns-clause-planned g c =
    let Told = IsTrue g.D.Device.tells_bytes in
    let s = store_of (reads (g.D.Device.disk (device_of c.args.blocks.now))) in
    let t = store_of (reads (g.D.Device.disk (device_of c.lowered.new.blocks))) in
    let tree = c.args.tree.now in
    let keep = c.args.dirty.keep in
    let items = c.args.dirty.blocks.items in
    let least = c.min-least.result in
    let levels = c.levels_of-levels.result in
    let pointers = c.in_ok-pointers.pointers in
    let news = c.plan_pointers.new.pointers in
    let left = c.plan_pointers.new.dirty.items in
    let same : Told → t ≡ s = (λ told. ap (λ (d : Disk). store_of (reads d)) (c.lowered.ensures.same told)) in
    let lowest : least < levels → least ≡ levels_of tree.size = (λ more. omega (arith, more, c.min-least.ensures, c.levels_of.ensures.value)) in
    let whole = first_planned Told s t tree keep items c.args.build.now least pointers news left c.lowered.new.build c.plan_pointers.new.build c.in_ok-pointers.ensures.count same c.in_ok-pointers.ensures.lowered c.in_ok-plan_pointers.ensures.planned in
    let top = c.in_ok-tops.ensures.planned (aim s tree keep items c.args.build.now) (holes_past s tree least levels c.lowered.ensures.sixteen lowest) whole in
    let new : BlockTree = record { size = c.args.dirty.size; pointers = c.new.result } in
    let behind = c.raised.new.build in
    let last = c.raised.new.dirty.items in
    let sized = subst (λ (n : ℕ). PlannedFront Told (aim s tree keep items c.args.build.now) n (16 * 1024 ^ n) last c.in_ok-tops.tops behind) c.levels_of-levels.ensures.value top in
    let named = subst (λ (ps : List ℕ). PlannedFront Told (aim s tree keep items c.args.build.now) (levels_of c.args.dirty.size) (16 * 1024 ^ levels_of c.args.dirty.size) last ps behind) (sym c.new.ensures) sized in
    front_planned s tree keep items c.args.build.now Told new last behind (ap (λ (ps : List ℕ). length ps) c.new.ensures ∙ c.in_ok-tops.ensures.count) named
