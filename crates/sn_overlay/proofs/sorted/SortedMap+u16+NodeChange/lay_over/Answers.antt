use Rattle.std.proofs.Common.{◌≡◌, [], length, sym, ap, ◌∙◌, arith}
use Rattle.std.specs.Ordering.{nat_cmp}
use Rattle.std.specs.Vec.Iter.{into_iter_items}
use Rattle.std.specs.FinMap.Entries.{put}
use Rattle.sn_overlay.specs.Merges.{change_over}
use Rattle.sn_overlay.specs.Sorted.{put_each}
use Rattle.sn_overlay.proofs.PutLemmas.{put_each-cons, put_each-none, nothing_left}
use Rattle.sn_overlay.proofs.sorted.SortedMap+u16+NodeChange.lay_over.Goals as goal

pub insert-requires : goal.insert-requires
insert-requires c = let gone = c.in-Some.ensures.steps.1 in omega (arith, c.loop-number.invariant.1)

pub loop-number-preserved : goal.loop-number-preserved
loop-number-preserved c =
    let steps = c.in-Some.ensures.steps.0 in
    let gone = c.in-Some.ensures.steps.1 in
    let short = ap length steps in
    let was = c.loop-number.invariant.2 in
    let held = c.loop-number.self.entries.items in (
      ap (put_each nat_cmp change_over (into_iter_items c.next.new.self)) (c.insert.ensures.entries
          ∙ ap (λ change. put nat_cmp c.in-Some.number change held) (c.over-change.ensures ∙ ap (λ old. change_over old c.in-Some.change) c.get.ensures))
          ∙ sym (put_each-cons nat_cmp change_over (c.in-Some.number, c.in-Some.change) (into_iter_items c.next.new.self) held)
          ∙ ap (λ es. put_each nat_cmp change_over es held) (sym steps)
          ∙ c.loop-number.invariant.0,
      omega (arith, c.loop-number.invariant.1, c.insert.ensures.len, c.insert.ensures.kept),
      omega arith,
      omega (arith, c.loop-number.invariant.3, c.insert.ensures.len),
      omega (arith, c.loop-number.invariant.4, c.insert.ensures.kept),
    )

pub returns-clause-entries : goal.returns-clause-entries
returns-clause-entries c =
    let empty : into_iter_items c.loop-number.number-iterator ≡ [] = nothing_left _ (sym c.loop-number.invariant.2 ∙ c.in-None.ensures.steps.0) in
    sym (put_each-none nat_cmp change_over c.loop-number.self.entries.items)
    ∙ ap (λ es. put_each nat_cmp change_over es c.loop-number.self.entries.items) (sym empty)
    ∙ c.loop-number.invariant.0
    ∙ ap (λ es. put_each nat_cmp change_over es c.args.self.now.entries.items) c.into_iter-number-iterator.ensures.into_iter_gives.0
