use Rattle.std.proofs.Common.{arith}
use Rattle.std.proofs.lemmas.Result.{err_from_is_err_and}
use Rattle.sn_words.specs.Reading.{numbers_of}
use Rattle.sn_words.proofs.Parts.{texts}
use Rattle.sn_words.proofs.Numbers.{loop_goes_on, loop_refuses, loop_ends}
use Rattle.sn_words.proofs.field.numbers.Goals as goal

pub returns-in_err-number : goal.returns-in_err-number
returns-in_err-number c =
    let p = err_from_is_err_and c.from_residual.result c.from_residual.ensures.1 in
    rw (p.1, p.2) (loop_refuses c.in_err-number.field-0.0 c.loop-word.numbers.items c.loop-word.word-index c.args.words.now _ (numbers_of (texts c.args.words.now))
    c.loop-word-test.true c.in_err-number.ensures c.loop-word.invariant.ahead)

pub loop-word-preserved : goal.loop-word-preserved
loop-word-preserved c = record {
  count = omega (arith, c.push.ensures.len, c.loop-word.invariant.count);
  ahead = rw c.push.ensures.items (loop_goes_on c.loop-word.numbers.items c.in_ok-number.field-0 c.loop-word.word-index c.args.words.now _ (numbers_of (texts c.args.words.now))
      c.loop-word-test.true c.in_ok-number.ensures c.loop-word.invariant.ahead);
}

pub returns : goal.returns
returns c = loop_ends c.loop-word.numbers.items c.loop-word.word-index c.args.words.now (numbers_of (texts c.args.words.now)) c.loop-word-test.false c.loop-word.invariant.ahead
