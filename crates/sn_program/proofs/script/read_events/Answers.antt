use Rattle.std.proofs.Common.{ℕ, ◌+◌, ◌∙◌, List, length, Err, ap, subst, sym}
use Rattle.std.specs.Prelude.{IsErrOf}
use Rattle.sn_script.specs.declared.fault.ScriptFault.{ScriptFault}
use Rattle.sn_script.specs.declared.fault.ScriptFault.TheVariants as reading
use Rattle.sn_program.specs.declared.fault.ProgramFault.TheVariants as fault
use Rattle.sn_program.proofs.ReaderLemmas.{IsRead, bad_all, found_all, long_all, not_long, script_told, told_of_file, told_of_script}
use Rattle.sn_program.proofs.script.read_events.Goals as goal

pub returns-clause-found : goal.returns-clause-found
returns-clause-found g c =
    let read = subst (λ (s : List ℕ). IsRead (g.R.Read.remaining c.args.reader) s) (sym c.as_slice.ensures.value) c.in_ok-bytes.ensures.read in
    found_all (g.R.Read.remaining c.args.reader) c.as_slice.result.now c.in_ok-events.events.items read c.in_ok-events.ensures.found.0 c.in_ok-events.ensures.found.1

pub returns-in_err-events-clause-faults : goal.returns-in_err-events-clause-faults
returns-in_err-events-clause-faults g c = told_of_script c.from_residual-in_err-events.result c.in_err-events.field-0.0 c.from_residual-in_err-events.ensures.1

pub returns-in_err-bytes-clause-faults : goal.returns-in_err-bytes-clause-faults
returns-in_err-bytes-clause-faults g c = told_of_file c.from_residual.result c.in_err-bytes.field-0.0 c.from_residual.ensures.1 c.in_err-bytes.ensures.faults

pub returns-in_err-events-clause-long : goal.returns-in_err-events-clause-long
returns-in_err-events-clause-long g c =
    let script = c.as_slice.result.now in
    let read = subst (λ (s : List ℕ). IsRead (g.R.Read.remaining c.args.reader) s) (sym c.as_slice.ensures.value) c.in_ok-bytes.ensures.read in
    let r = c.from_residual-in_err-events.result in
    long_all (g.R.Read.remaining c.args.reader) script (IsErrOf r (fault.Script (reading.Line 0))) read
    (λ told. c.read_script.ensures.long.0 (c.in_err-events.was ∙ ap (λ (f : ScriptFault). Err f) (script_told r c.in_err-events.field-0.0 (reading.Line 0) c.from_residual-in_err-events.ensures.1 told)))

pub returns-in_err-events-clause-bad : goal.returns-in_err-events-clause-bad
returns-in_err-events-clause-bad g c =
    let script = c.as_slice.result.now in
    let read = subst (λ (s : List ℕ). IsRead (g.R.Read.remaining c.args.reader) s) (sym c.as_slice.ensures.value) c.in_ok-bytes.ensures.read in
    let r = c.from_residual-in_err-events.result in
    bad_all (g.R.Read.remaining c.args.reader) script (λ (n : ℕ). IsErrOf r (fault.Script (reading.Line (n + 1)))) read
    (λ n told.
    let is = c.in_err-events.was ∙ ap (λ (f : ScriptFault). Err f) (script_told r c.in_err-events.field-0.0 (reading.Line (n + 1)) c.from_residual-in_err-events.ensures.1 told) in
    (c.read_script.ensures.bad n is, not_long c.read_script.result n (length script) c.read_script.ensures.long.1 is))
