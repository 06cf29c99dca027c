use Rattle.std.proofs.Common.{ℕ, ◌+◌, ◌<◌, length, inl, refl, sym, ap, ◌∙◌, arith}
use Rattle.std.proofs.lemmas.Bool.{eqb-true, eqb-false}
use Rattle.sn_script.specs.declared.fault.ScriptFault.TheVariants.{Line}
use Rattle.sn_script.proofs.ScriptLaws.{one_script, not_both, one_line, read_all, met_bad}
use Rattle.sn_script.proofs.reading.read_script.Goals as goal

pub returns-in-Err-Bad-clause-only : goal.returns-in-Err-Bad-clause-only
returns-in-Err-Bad-clause-only c = λ events is short.
    let none = eqb-false (length c.loop-rest.rest.now) 0 (sym c.is_empty.ensures ∙ c.loop-rest-test.true) in
    let more : 0 < length c.loop-rest.rest.now = omega (arith, none) in
    let here = met_bad c.loop-rest.events.items c.loop-rest.rest.now c.args.script.now c.loop-rest.invariant.each c.loop-rest.invariant.spelled more (c.in-Err-Bad.ensures.bad (rw c.in-Err-Bad.field-0-is refl)) in
    absurd (not_both _ events c.args.script.now is here)

pub returns-in-Err-Bad-clause-first : goal.returns-in-Err-Bad-clause-first
returns-in-Err-Bad-clause-first c = λ n bad short.
    let none = eqb-false (length c.loop-rest.rest.now) 0 (sym c.is_empty.ensures ∙ c.loop-rest-test.true) in
    let more : 0 < length c.loop-rest.rest.now = omega (arith, none) in
    let here = met_bad c.loop-rest.events.items c.loop-rest.rest.now c.args.script.now c.loop-rest.invariant.each c.loop-rest.invariant.spelled more (c.in-Err-Bad.ensures.bad (rw c.in-Err-Bad.field-0-is refl)) in
    let line = one_line _ n c.args.script.now here bad in
    inl (ap Line (ap (λ (k : ℕ). k + 1) (c.len.ensures ∙ c.loop-rest.events.ok.0) ∙ line))

pub returns-clause-only : goal.returns-clause-only
returns-clause-only c = λ events is short.
    let none = eqb-true (length c.loop-rest.rest.now) 0 (sym c.is_empty.ensures ∙ c.loop-rest-test.false) in
    let here = read_all c.loop-rest.events.items c.loop-rest.rest.now c.args.script.now c.loop-rest.invariant.each c.loop-rest.invariant.spelled none in
    one_script c.loop-rest.events.items events c.args.script.now here is

pub returns-clause-first : goal.returns-clause-first
returns-clause-first c = λ n bad short.
    let none = eqb-true (length c.loop-rest.rest.now) 0 (sym c.is_empty.ensures ∙ c.loop-rest-test.false) in
    let here = read_all c.loop-rest.events.items c.loop-rest.rest.now c.args.script.now c.loop-rest.invariant.each c.loop-rest.invariant.spelled none in
    not_both n c.loop-rest.events.items c.args.script.now here bad
