use Rattle.std.proofs.Common.{get_or, set, ap, ◌∙◌, arith}
use Rattle.std.proofs.lemmas.List.{get_or_default}
use Rattle.std.proofs.lemmas.List.Edits.{map_over_more}
use Rattle.sn_map.specs.Bits.{with_bit_cleared}
use Rattle.sn_map.proofs.plain.clear_bit.Goals as goal

pub loop-word-preserved : goal.loop-word-preserved
loop-word-preserved c =
    let ys = c.loop-word.words in
    let i = c.loop-word.word-index in
    let word = get_or ys i 0 in
    ap (set ys i) c.bit_cleared.ensures
    ∙ map_over_more (with_bit_cleared c.args.k) c.args.words.now ys i word c.loop-word-test.true c.loop-word.invariant (get_or_default ys i 0 word (omega arith))
