use Rattle.std.proofs.Common.{◌≡◌, ℕ, suc, ◌+◌, ◌*◌, ◌<◌, ◌≤◌, List, [], ◌∷◌, ◌++◌, length, refl, sym, ap, subst, ◌∙◌, arith, IsTrue}
use Rattle.std.specs.Prelude.{◌^◌, Err}
use Rattle.std.proofs.Math.Nat.{pow-succ'}
use Rattle.std.proofs.lemmas.Result.{err_from_is_err_and}
use Rattle.sn_alloc.specs.Taking.{free_data}
use Rattle.sn_tree.specs.Dirty.{IsFrom}
use Rattle.sn_tree.specs.Drafts.{Draft}
use Rattle.sn_tree.specs.Fronts.{Aim, AreHolesFrom, front_most, PlannedFront}
use Rattle.sn_tree.specs.Steps.{IsReplaced}
use Rattle.sn_tree.specs.declared.fault.PlanFault.TheVariants.{Full}
use Rattle.sn_tree.specs.declared.new_block.DirtyBlock.{DirtyBlock}
use Rattle.sn_tree.proofs.FrontLemmas.{front_up, front_full_above, front_most-raised, front_most-later}
use Rattle.sn_tree.proofs.levels.raise.Goals as goal

-- where the pointers of one indirect block end
all_behind : (span width n : ℕ) → span ≡ width → n ≡ 1008 → 16 * span + n * width ≡ 1024 * span
all_behind span width n is many = let all : n * width ≡ 1008 * width = ap (λ k. k * width) many in omega (arith, all, is)

-- where sixteen of them do
all_beside : (span depth n : ℕ) → span ≡ 1024 ^ depth → n ≡ 15 → 1024 * span + n * 1024 ^ (depth + 1) ≡ 16 * 1024 ^ (depth + 1)
all_beside span depth n is many =
    let up : depth + 1 ≡ suc depth = omega arith in
    let wide : 1024 ^ (depth + 1) ≡ 1024 * 1024 ^ depth = ap (λ (d : ℕ). 1024 ^ d) up ∙ pow-succ' 1024 depth in
    let all : n * 1024 ^ (depth + 1) ≡ 15 * 1024 ^ (depth + 1) = ap (λ k. k * 1024 ^ (depth + 1)) many in
    omega (arith, all, is, wide)

-- the pointers of one indirect block, under the pointer to it
raised_front : (Told : Type 0) (aim : Aim) (depth end later : ℕ) (left : List DirtyBlock) (planned below : List ℕ) (between behind : Draft) (first : ℕ) → end ≡ later → below ≡ planned → PlannedFront Told aim depth end left planned between → IsReplaced between behind 0 below first
    → PlannedFront Told aim (depth + 1) later left (first ∷ []) behind
raised_front Told aim depth end later left planned below between behind first ends joined front replaced =
    let up : suc depth ≡ depth + 1 = omega arith in
    subst (λ (d : ℕ). PlannedFront Told aim d later left (first ∷ []) behind) up
    (subst (λ (n : ℕ). PlannedFront Told aim (suc depth) n left (first ∷ []) behind) ends
    (front_up Told aim depth end left below between behind first (subst (λ (ps : List ℕ). PlannedFront Told aim depth end left ps between) (sym joined) front) replaced))

pub plan_behind-requires-clause-room : goal.plan_behind-requires-clause-room
plan_behind-requires-clause-room g c =
    let ends = all_behind c.span_of-span.result (1024 ^ c.args.depth) (length c.no_behind-behind.result) c.span_of-span.ensures.value c.no_behind-behind.ensures.count in
    omega (arith, ends, c.span_of-span.ensures.most)

pub plan_behind-requires-clause-rise : goal.plan_behind-requires-clause-rise
plan_behind-requires-clause-rise g c = subst (λ (n : ℕ). IsFrom n c.args.dirty.now.items) (ap (λ (w : ℕ). 16 * w) (sym c.span_of-span.ensures.value)) c.requires.rise

pub plan_behind-requires-2-clause-room : goal.plan_behind-requires-2-clause-room
plan_behind-requires-2-clause-room g c =
    let ends = all_beside c.span_of-span.result c.args.depth (length c.no_beside-beside.result) c.span_of-span.ensures.value c.no_beside-beside.ensures.count in
    let up : c.args.depth + 1 ≡ suc c.args.depth = omega arith in
    let wide : 1024 ^ (c.args.depth + 1) ≡ 1024 * 1024 ^ c.args.depth = ap (λ (d : ℕ). 1024 ^ d) up ∙ pow-succ' 1024 c.args.depth in
    omega (arith, ends, wide, c.span_of-span.ensures.value, c.span_of-span.ensures.most)

pub plan_behind-requires-2-clause-rise : goal.plan_behind-requires-2-clause-rise
plan_behind-requires-2-clause-rise g c =
    let ends = all_behind c.span_of-span.result (1024 ^ c.args.depth) (length c.no_behind-behind.result) c.span_of-span.ensures.value c.no_behind-behind.ensures.count in
    subst (λ (n : ℕ). IsFrom n c.plan_behind.new.dirty.items) ends c.in_ok-plan_behind.ensures.rise

pub returns-clause-rise : goal.returns-clause-rise
returns-clause-rise g c =
    let ends = all_beside c.span_of-span.result c.args.depth (length c.no_beside-beside.result) c.span_of-span.ensures.value c.no_beside-beside.ensures.count in
    subst (λ (n : ℕ). IsFrom n c.plan_behind-2.new.dirty.items) ends c.in_ok-plan_behind-2.ensures.rise

pub returns-clause-planned : goal.returns-clause-planned
returns-clause-planned g c = λ aim bare front.
    let Told = IsTrue g.D.Device.tells_bytes in
    let depth = c.args.depth in
    let span = c.span_of-span.result in
    let is : span ≡ 1024 ^ depth = c.span_of-span.ensures.value in
    let first = c.in_ok-first.first in
    let e1 = 16 * span + length c.no_behind-behind.result * 1024 ^ depth in
    let ends = all_behind span (1024 ^ depth) (length c.no_behind-behind.result) is c.no_behind-behind.ensures.count in
    let last = all_beside span depth (length c.no_beside-beside.result) is c.no_beside-beside.ensures.count in
    let bare1 : AreHolesFrom (16 * span) aim.old = (λ hole i past. bare hole i (omega (arith, past, is))) in
    let bare2 : AreHolesFrom (1024 * span) aim.old = (λ hole i past. bare hole i (omega (arith, past, is))) in
    let front0 = subst (λ (n : ℕ). PlannedFront Told aim depth n c.args.dirty.now.items c.args.pointers.now c.args.build.now) (ap (λ (w : ℕ). 16 * w) (sym is)) front in
    let front1 = c.in_ok-plan_behind.ensures.planned aim c.args.pointers.now bare1 front0 in
    let front2 = raised_front Told aim depth e1 (1024 * span) c.plan_behind.new.dirty.items (c.args.pointers.now ++ c.plan_behind.new.pointers) c.joined-below.result c.plan_behind.new.build c.replace_pointers.new.build first ends c.joined-below.ensures front1 c.in_ok-first.ensures.replaced in
    let front3 = c.in_ok-plan_behind-2.ensures.planned aim (first ∷ []) bare2 front2 in
    subst (λ (ps : List ℕ). PlannedFront Told aim (depth + 1) (16 * 1024 ^ (depth + 1)) c.plan_behind-2.new.dirty.items ps c.plan_behind-2.new.build) (sym c.led_by.ensures)
    (subst (λ (n : ℕ). PlannedFront Told aim (depth + 1) n c.plan_behind-2.new.dirty.items (first ∷ c.plan_behind-2.new.pointers) c.plan_behind-2.new.build) last front3)

pub returns-in_err-plan_behind-clause-full : goal.returns-in_err-plan_behind-clause-full
returns-in_err-plan_behind-clause-full g c = λ aim bare front is.
    let Told = IsTrue g.D.Device.tells_bytes in
    let depth = c.args.depth in
    let span = c.span_of-span.result in
    let e1 = 16 * span + length c.no_behind-behind.result * 1024 ^ depth in
    let ends = all_behind span (1024 ^ depth) (length c.no_behind-behind.result) c.span_of-span.ensures.value c.no_behind-behind.ensures.count in
    let front0 = subst (λ (n : ℕ). PlannedFront Told aim depth n c.args.dirty.now.items c.args.pointers.now c.args.build.now) (ap (λ (w : ℕ). 16 * w) (sym c.span_of-span.ensures.value)) front in
    let p = err_from_is_err_and c.from_residual.result c.from_residual.ensures.1 in
    let fault : c.in_err-plan_behind.field-0.0 ≡ Full = cc (p.1, p.2) in
    let few = c.in_err-plan_behind.ensures.full aim c.args.pointers.now front0 (ap (λ fault. Err fault) fault) in
    omega (arith, few, front_most-raised depth (depth + 1) e1 (16 * 1024 ^ (depth + 1)) aim.dirty (omega arith) (within span depth e1 c.span_of-span.ensures.value ends))
  where
    within : (span depth e1 : ℕ) → span ≡ 1024 ^ depth → e1 ≡ 1024 * span → e1 ≤ 16 * 1024 ^ (depth + 1)
    within span depth e1 is ends = omega (arith, is, ends, all_beside span depth 15 is refl)

pub returns-in_err-first-clause-full : goal.returns-in_err-first-clause-full
returns-in_err-first-clause-full g c = λ aim bare front is.
    let Told = IsTrue g.D.Device.tells_bytes in
    let depth = c.args.depth in
    let span = c.span_of-span.result in
    let of_span : span ≡ 1024 ^ depth = c.span_of-span.ensures.value in
    let e1 = 16 * span + length c.no_behind-behind.result * 1024 ^ depth in
    let ends = all_behind span (1024 ^ depth) (length c.no_behind-behind.result) of_span c.no_behind-behind.ensures.count in
    let last = all_beside span depth 15 of_span refl in
    let bare1 : AreHolesFrom (16 * span) aim.old = (λ hole i past. bare hole i (omega (arith, past, of_span))) in
    let front0 = subst (λ (n : ℕ). PlannedFront Told aim depth n c.args.dirty.now.items c.args.pointers.now c.args.build.now) (ap (λ (w : ℕ). 16 * w) (sym of_span)) front in
    let front1 = c.in_ok-plan_behind.ensures.planned aim c.args.pointers.now bare1 front0 in
    let p = err_from_is_err_and c.from_residual-in_err-first.result c.from_residual-in_err-first.ensures.1 in
    let fault : c.in_err-first.field-0.0 ≡ Full = cc (p.1, p.2) in
    let above = front_full_above Told aim depth e1 (c.args.pointers.now ++ c.plan_behind.new.pointers) c.plan_behind.new.dirty.items c.plan_behind.new.build front1 (c.in_err-first.ensures.full (ap (λ fault. Err fault) fault)) in
    let wide : e1 ≤ 16 * 1024 ^ (depth + 1) = omega (arith, ends, last) in
    omega (arith, above, more depth e1 (16 * 1024 ^ (depth + 1)) aim.dirty wide)
  where
    more : (depth e1 e2 : ℕ) (ds : List DirtyBlock) → e1 ≤ e2 → front_most (suc depth) e1 ds ≤ front_most (depth + 1) e2 ds
    more depth e1 e2 ds wide =
        let up : suc depth ≡ depth + 1 = omega arith in
        subst (λ (d : ℕ). front_most (suc depth) e1 ds ≤ front_most d e2 ds) up (front_most-later (suc depth) e1 e2 ds wide)

pub returns-in_err-plan_behind-2-clause-full : goal.returns-in_err-plan_behind-2-clause-full
returns-in_err-plan_behind-2-clause-full g c = λ aim bare front is.
    let Told = IsTrue g.D.Device.tells_bytes in
    let depth = c.args.depth in
    let span = c.span_of-span.result in
    let of_span : span ≡ 1024 ^ depth = c.span_of-span.ensures.value in
    let first = c.in_ok-first.first in
    let e1 = 16 * span + length c.no_behind-behind.result * 1024 ^ depth in
    let ends = all_behind span (1024 ^ depth) (length c.no_behind-behind.result) of_span c.no_behind-behind.ensures.count in
    let last = all_beside span depth (length c.no_beside-beside.result) of_span c.no_beside-beside.ensures.count in
    let bare1 : AreHolesFrom (16 * span) aim.old = (λ hole i past. bare hole i (omega (arith, past, of_span))) in
    let front0 = subst (λ (n : ℕ). PlannedFront Told aim depth n c.args.dirty.now.items c.args.pointers.now c.args.build.now) (ap (λ (w : ℕ). 16 * w) (sym of_span)) front in
    let front1 = c.in_ok-plan_behind.ensures.planned aim c.args.pointers.now bare1 front0 in
    let front2 = raised_front Told aim depth e1 (1024 * span) c.plan_behind.new.dirty.items (c.args.pointers.now ++ c.plan_behind.new.pointers) c.joined-below.result c.plan_behind.new.build c.replace_pointers.new.build first ends c.joined-below.ensures front1 c.in_ok-first.ensures.replaced in
    let p = err_from_is_err_and c.from_residual-in_err-plan_behind-2.result c.from_residual-in_err-plan_behind-2.ensures.1 in
    let fault : c.in_err-plan_behind-2.field-0.0 ≡ Full = cc (p.1, p.2) in
    subst (λ (n : ℕ). free_data aim.draft.words aim.draft.first < length aim.draft.added + front_most (depth + 1) n aim.dirty) last
    (c.in_err-plan_behind-2.ensures.full aim (first ∷ []) front2 (ap (λ fault. Err fault) fault))
