use Rattle.std.proofs.Common.{◌+◌, ap, ◌∙◌, arith, cond, count_by}
use Rattle.std.proofs.lemmas.List.{take_rest}
use Rattle.std.proofs.lemmas.List.Sums.{sum_by-take-drop}
use Rattle.sn_map.specs.Free.{is_free_word}
use Rattle.sn_map.proofs.VectorLemmas.{count_more, count_below}
use Rattle.sn_map.proofs.lanes.count_free.Goals as goal

pub overflow_add-count : goal.overflow_add-count
overflow_add-count c =
    let words = c.args.words.now in
    let at = c.vectors.at in
    record { fits = omega (arith, count_more words at 64 c.free_lanes.result (omega arith) c.free_lanes.ensures, count_below words (at + 64) (omega arith)) }

pub vectors-preserved : goal.vectors-preserved
vectors-preserved c = (
  omega arith,
  omega (arith, count_more c.args.words.now c.vectors.at 64 c.free_lanes.result (omega arith) c.free_lanes.ensures),
)

pub returns : goal.returns
returns c =
    let words = c.args.words.now in
    let at = c.vectors.at in
    let rest = c.count_free.ensures ∙ ap (count_by is_free_word) (take_rest words at) in
    omega (arith, rest, sum_by-take-drop (λ word. cond (is_free_word word) 1 0) words at)
