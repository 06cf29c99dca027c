use Rattle.std.proofs.Common.{arith, ap, ◌∙◌, sym, position}
use Rattle.std.proofs.lemmas.List.{take_rest}
use Rattle.sn_map.specs.Free.{is_free_word}
use Rattle.sn_map.proofs.FreeLemmas.{goes_on}
use Rattle.sn_map.proofs.VectorLemmas.{none_in_vector, found_in_vector}
use Rattle.sn_map.proofs.lanes.first_free_by_vectors.Goals as goal

pub returns-then-free-ne0 : goal.returns-then-free-ne0
returns-then-free-ne0 c =
    sym (found_in_vector c.args.words.now c.vectors.at c.free_lanes-free.result (omega arith) c.vectors.invariant.1 c.free_lanes-free.ensures c.if-free-ne0.true)

pub vectors-preserved : goal.vectors-preserved
vectors-preserved c = (
  omega arith,
  none_in_vector c.args.words.now c.vectors.at 64 c.free_lanes-free.result (omega arith) c.vectors.invariant.1 c.free_lanes-free.ensures c.if-free-ne0.false,
)

pub returns-in-Some : goal.returns-in-Some
returns-in-Some c =
    let words = c.args.words.now in
    let at = c.vectors.at in
    sym (goes_on words at c.vectors.invariant.0 c.vectors.invariant.1 _ (c.in-Some.ensures ∙ ap (position is_free_word) (take_rest words at)))

pub returns-in-None : goal.returns-in-None
returns-in-None c =
    let words = c.args.words.now in
    let at = c.vectors.at in
    sym (goes_on words at c.vectors.invariant.0 c.vectors.invariant.1 _ (c.in-None.ensures ∙ ap (position is_free_word) (take_rest words at)))
