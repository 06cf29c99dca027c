use Rattle.std.proofs.Common.{◌≡◌, [], length, sym, ap, ◌∙◌, arith}
use Rattle.std.specs.Vec.Iter.{into_iter_items}
use Rattle.sn_overlay.specs.Sorted.{newer_value, put_each}
use Rattle.sn_overlay.proofs.PutLemmas.{put_each-cons, put_each-none, nothing_left}
use Rattle.sn_overlay.proofs.sorted.SortedMap.extend.Goals as goal

pub insert-requires : goal.insert-requires
insert-requires g c = let gone = c.in-Some.ensures.steps.1 in omega (arith, c.loop-key.invariant.1)

pub loop-key-preserved : goal.loop-key-preserved
loop-key-preserved g c =
    let steps = c.in-Some.ensures.steps.0 in
    let gone = c.in-Some.ensures.steps.1 in
    let short = ap length steps in
    let was = c.loop-key.invariant.2 in (
      ap (put_each g.K.Ord.cmp newer_value (into_iter_items c.next.new.self)) c.insert.ensures.entries
          ∙ sym (put_each-cons g.K.Ord.cmp newer_value (c.in-Some.key, c.in-Some.value) (into_iter_items c.next.new.self) c.loop-key.self.entries.items)
          ∙ ap (λ es. put_each g.K.Ord.cmp newer_value es c.loop-key.self.entries.items) (sym steps)
          ∙ c.loop-key.invariant.0,
      omega (arith, c.loop-key.invariant.1, c.insert.ensures.len, c.insert.ensures.kept),
      omega arith,
      omega (arith, c.loop-key.invariant.3, c.insert.ensures.len),
      omega (arith, c.loop-key.invariant.4, c.insert.ensures.kept),
    )

pub returns-clause-entries : goal.returns-clause-entries
returns-clause-entries g c =
    let empty : into_iter_items c.loop-key.key-iterator ≡ [] = nothing_left _ (sym c.loop-key.invariant.2 ∙ c.in-None.ensures.steps.0) in
    sym (put_each-none g.K.Ord.cmp newer_value c.loop-key.self.entries.items)
    ∙ ap (λ es. put_each g.K.Ord.cmp newer_value es c.loop-key.self.entries.items) (sym empty)
    ∙ c.loop-key.invariant.0
    ∙ ap (λ es. put_each g.K.Ord.cmp newer_value es c.args.self.now.entries.items) c.into_iter-key-iterator.ensures.into_iter_gives.0
