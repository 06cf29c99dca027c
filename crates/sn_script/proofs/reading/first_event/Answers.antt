use Rattle.std.proofs.lemmas.Result.{err_from_is_err_and}
use Rattle.std.proofs.Common.{◌≡◌}
use Rattle.sn_words.specs.declared.fault.SpellingFault.TheVariants.{Bad}
use Rattle.sn_script.specs.Reading.{line_event}
use Rattle.sn_script.proofs.LineLaws.{first_found, first_bad, nothing_read}
use Rattle.sn_script.proofs.reading.first_event.Goals as goal

pub returns-in_err-event-clause-bad : goal.returns-in_err-event-clause-bad
returns-in_err-event-clause-bad c = λ failed.
    let p = err_from_is_err_and c.from_residual.result c.from_residual.ensures.1 in
    let fault : c.in_err-event.field-0.0 ≡ Bad = cc in
    first_bad c.args.script.now c.in-Some.line.now c.in-Some.others.now c.in-Some.ensures.found c.in-Some.ensures.first
    (nothing_read c.in_err-event.field-0.0 (line_event c.in-Some.line.now) fault c.in_err-event.ensures)

pub returns-clause-found : goal.returns-clause-found
returns-clause-found c = first_found c.args.script.now c.in-Some.line.now c.in-Some.others.now c.in_ok-event.event c.in-Some.ensures.found c.in_ok-event.ensures
