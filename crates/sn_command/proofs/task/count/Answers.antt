use Rattle.std.proofs.Common.{◌≡◌, ◌∙◌, ◌^◌, Some, ap, sym, decimal}
use Rattle.sn_command.proofs.NumberLemmas.{err_is, number_fault, same_word}
use Rattle.sn_words.proofs.Numbers.{number_takes}
use Rattle.sn_command.proofs.task.count.Goals as goal

-- src/task.rt:32:8
pub returns-in_err-number-clause-absent : goal.returns-in_err-number-clause-absent
returns-in_err-number-clause-absent c = λ n lt e.
    let spelled : c.as_bytes.result.now ≡ decimal n = c.as_bytes.ensures.value ∙ same_word _ _ (sym c.in_ok-word.ensures.there ∙ e) in
    err_is c.from_residual-in_err-number.result _ _ c.from_residual-in_err-number.ensures.1
    (λ y p. p.1 (number_fault c.in_err-number.field-0.0 c.as_bytes.result.now n lt spelled c.in_err-number.ensures))

-- src/task.rt:26:1
pub returns-clause-there : goal.returns-clause-there
returns-clause-there c = c.in_ok-word.ensures.there ∙ ap Some (sym c.as_bytes.ensures.value)
    ∙ ap Some (number_takes (2 ^ 32) c.in_ok-number.field-0 c.as_bytes.result.now c.in_ok-number.ensures).0
