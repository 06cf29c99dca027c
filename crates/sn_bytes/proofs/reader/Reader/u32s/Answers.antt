use Rattle.std.proofs.Common.{◌∙◌, ◌++◌, sym, ap, arith}
use Rattle.std.proofs.lemmas.List.{take_all}
use Rattle.sn_bytes.specs.Bytes.{numbers_bytes}
use Rattle.sn_bytes.proofs.Fields.{same_lists, AreNumbers-from}
use Rattle.sn_bytes.proofs.reader.Reader.u32s.Goals as goal

pub returns-clause-fits : goal.returns-clause-fits
returns-clause-fits c = AreNumbers-from 4 c.loop-number.numbers (λ i lt. c.loop-number.invariant.fits i (omega arith))

pub returns-clause-only : goal.returns-clause-only
returns-clause-only c = λ all rest len fits e.
    let whole = take_all c.loop-number.number-index c.loop-number.numbers (omega arith) in
    let read = c.loop-number.invariant.read ∙ ap (λ xs. numbers_bytes 4 xs ++ c.loop-number.self) whole in
    same_lists 4 c.loop-number.numbers all c.loop-number.self rest (omega arith) (AreNumbers-from 4 c.loop-number.numbers (λ i lt. c.loop-number.invariant.fits i (omega arith))) fits (sym read ∙ e)
