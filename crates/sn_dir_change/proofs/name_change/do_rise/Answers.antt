use Rattle.std.proofs.Common.{suc, ◌<◌, ◌≤◌, ⊎_elim, sym, ◌∙◌, arith}
use Rattle.std.proofs.lemmas.Bool.{cases_lt}
use Rattle.sn_dir_change.proofs.ChangeLemmas.{rise_apart, rise_more}
use Rattle.sn_dir_change.proofs.name_change.do_rise.Goals as goal

pub loop-i-preserved : goal.loop-i-preserved
loop-i-preserved c = λ j d low. ⊎_elim
    (λ (before : suc j < c.loop-i.i). c.loop-i.invariant j d before)
    (λ (last : c.loop-i.i ≤ suc j). rise_more c.args.changes.now c.loop-i.i j d _ (omega (arith, low, last)) c.loop-i-test.true (sym c.cmp.ensures ∙ c.in-Less.is))
    (cases_lt (suc j) c.loop-i.i)

pub returns : goal.returns
returns c = λ yes. rise_apart c.args.changes.now (λ j d low. c.loop-i.invariant j d (omega (arith, low)))
