use Rattle.std.proofs.Common.{◌≡◌, ◌+◌, ◌∷◌, [], List, length, IsTrue, ap, subst, ◌∙◌, arith}
use Rattle.std.proofs.lemmas.List.{length-append, nil_from_length}
use Rattle.sn_dir_change.specs.Through.{IsFilled}
use Rattle.sn_dir_change.specs.declared.name_change.NameChange.{NameChange as TheChange}
use Rattle.sn_dir_change.proofs.FillLemmas.{filled_more}
use Rattle.sn_dir_change.proofs.fill.fill_blocks.Goals as goal

pub loop-change-preserved : goal.loop-change-preserved
loop-change-preserved c =
    let before = c.loop-change.waiting.items in
    let waiting = c.pop.new.self.items in
    let change = c.in-Some.change in
    let size : length before ≡ length waiting + 1 = ap (λ (xs : List TheChange). length xs) c.in-Some.ensures.items ∙ length-append waiting (change ∷ []) in
    record {
      waiting = c.filled-block.ensures.waiting;
      room = omega (arith, c.loop-change.invariant.room, size, c.filled-block.ensures.fewer);
      filled = λ told s tree changes bound begun.
          filled_more (IsTrue told) s tree changes bound c.loop-change.count c.loop-change.dirty.items c.push_dirty.new.dirty.items before waiting c.filled-block.new.waiting.items change c.filled-block.result
          c.in-Some.ensures.items c.filled-block.ensures.fewer c.filled-block.ensures.listed c.filled-block.ensures.from c.filled-block.ensures.full c.filled-block.ensures.some c.in_ok-push_dirty.ensures c.filled-block.ensures.spelled (c.filled-block.ensures.way changes) (c.loop-change.invariant.filled told s tree changes bound begun);
    }

pub returns : goal.returns
returns c = record {
  filled = λ told s tree changes bound begun.
      let none : c.loop-change.waiting.items ≡ [] = nil_from_length c.loop-change.waiting.items (omega (arith, c.in_default.ensures.cases)) in
      subst (λ (xs : List TheChange). IsFilled (IsTrue told) s tree changes bound c.loop-change.count c.loop-change.dirty.items xs) none (c.loop-change.invariant.filled told s tree changes bound begun);
}
