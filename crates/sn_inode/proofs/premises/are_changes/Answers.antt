use Rattle.std.proofs.Common.{◌≡◌, ◌⊎◌, inl, inr, ℕ, ◌+◌, ◌-◌, ◌<◌, ◌≤◌, ⊎_elim, slice_index, refl, sym, ap, subst, ◌∙◌, arith}
use Rattle.std.specs.Prelude.{All}
use Rattle.std.proofs.lemmas.Bool.{cases_lt, true≢false}
use Rattle.std.proofs.lemmas.List.{take_all, get_or-map, length-map}
use Rattle.std.proofs.lemmas.List.Elements.{All-nil, All-more}
use Rattle.sn_inode.specs.Changes.{IsChange, AreChanges, numbers_in}
use Rattle.sn_inode.specs.declared.changes.InodeChange.{InodeChange}
use Rattle.sn_inode.proofs.premises.are_changes.Goals as goal

pub loop-change-init : goal.loop-change-init
loop-change-init c = record {
  each = All-nil (IsChange c.args.limits.now);
  rise = λ j under. absurd (omega (arith, under));
  first = λ _. refl;
  next = λ j at. absurd (omega (arith, at));
}

pub loop-change-preserved : goal.loop-change-preserved
loop-change-preserved c =
    let k = c.loop-change.change-index in
    let item = c.change-item.result in
    let changes = c.args.changes.now in
    let number : slice_index (numbers_in changes) k ≡ item.number = get_or-map (λ (x : InodeChange). x.number) changes k item 0 c.loop-change-test.true ∙ ap (λ (x : InodeChange). x.number) (sym c.change-item.is) in
    record {
      each = All-more (IsChange c.args.limits.now) changes k item c.loop-change-test.true c.loop-change.invariant.each (subst (λ (x : InodeChange). IsChange c.args.limits.now x) c.change-item.is (c.is_change.ensures.0 c.if-not-is_change.false));
      rise = λ j under. told j under (cases_lt (j + 1) k);
      first = λ at. absurd (omega (arith, at));
      next = λ j at.
          let same : j ≡ k = omega (arith, at) in
          let here : slice_index (numbers_in changes) j ≡ slice_index (numbers_in changes) k = ap (slice_index (numbers_in changes)) same in
          omega (arith, here, number, c.from-least.ensures);
    }
  where
    told : (j : ℕ) → j + 1 < c.loop-change.change-index + 1 → (j + 1 < c.loop-change.change-index) ⊎ (c.loop-change.change-index ≤ j + 1) → slice_index (numbers_in c.args.changes.now) j < slice_index (numbers_in c.args.changes.now) (j + 1)
    told j under (inl before) = c.loop-change.invariant.rise j before
    told j under (inr from) =
        let k = c.loop-change.change-index in
        let last : j + 1 ≡ k = omega (arith, under, from) in
        let below = c.loop-change.invariant.next j last in
        let number : slice_index (numbers_in c.args.changes.now) k ≡ c.change-item.result.number = get_or-map (λ (x : InodeChange). x.number) c.args.changes.now k c.change-item.result 0 c.loop-change-test.true ∙ ap (λ (x : InodeChange). x.number) (sym c.change-item.is) in
        let here : slice_index (numbers_in c.args.changes.now) (j + 1) ≡ slice_index (numbers_in c.args.changes.now) k = ap (slice_index (numbers_in c.args.changes.now)) last in
        omega (arith, below, number, here, c.if-from-least.false, c.from.ensures)

pub returns-then-not-is_change : goal.returns-then-not-is_change
returns-then-not-is_change c = (
  λ no. absurd (true≢false (sym no)),
  λ all.
      let item = c.change-item.result in
      let its : IsChange c.args.limits.now item = subst (λ (x : InodeChange). IsChange c.args.limits.now x) (sym c.change-item.is) (all.each c.loop-change.change-index item c.loop-change-test.true) in
      absurd (true≢false (sym (c.is_change.ensures.1 its) ∙ c.if-not-is_change.true)),
)

pub returns-then-from-least : goal.returns-then-from-least
returns-then-from-least c = (λ no. absurd (true≢false (sym no)), λ all. absurd (⊎_elim (behind all) first (cases_lt 0 c.loop-change.change-index)))
  where
    number : slice_index (numbers_in c.args.changes.now) c.loop-change.change-index ≡ c.change-item.result.number
    number = get_or-map (λ (x : InodeChange). x.number) c.args.changes.now c.loop-change.change-index c.change-item.result 0 c.loop-change-test.true ∙ ap (λ (x : InodeChange). x.number) (sym c.change-item.is)

    first : c.loop-change.change-index ≤ 0 → ⊥
    first none = omega (arith, c.loop-change.invariant.first (omega (arith, none)), c.if-from-least.true)

    behind : AreChanges c.args.limits.now c.args.changes.now → 0 < c.loop-change.change-index → ⊥
    behind all some =
        let at : (c.loop-change.change-index - 1) + 1 ≡ c.loop-change.change-index = omega (arith, some) in
        let least = c.loop-change.invariant.next (c.loop-change.change-index - 1) at in
        let rise = all.rise (c.loop-change.change-index - 1) (omega (arith, at, c.loop-change-test.true, length-map c.args.changes.now (λ (x : InodeChange). x.number))) in
        let here = ap (slice_index (numbers_in c.args.changes.now)) at in
        omega (arith, least, rise, here, number, c.if-from-least.true, c.from.ensures)

pub returns : goal.returns
returns c = (
  λ _. record {
    each = subst (All (IsChange c.args.limits.now)) (take_all c.loop-change.change-index c.args.changes.now c.loop-change-test.false) c.loop-change.invariant.each;
    rise = λ k under. c.loop-change.invariant.rise k (omega (arith, under, c.loop-change-test.false, length-map c.args.changes.now (λ (x : InodeChange). x.number)));
  },
  λ _. refl,
)
