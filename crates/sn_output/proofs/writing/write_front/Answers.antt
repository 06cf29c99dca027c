use Rattle.std.proofs.Common.{◌+◌, ◌∙◌, length, refl, sym, eqb-true, arith}
use Rattle.std.proofs.lemmas.List.{take_rest}
use Rattle.sn_output.proofs.OutputLemmas.{appends_none, finished, more_few, more_front, more_left, same_more}
use Rattle.sn_output.proofs.writing.write_front.Goals as goal

pub loop-turn-init : goal.loop-turn-init
loop-turn-init g c = (0, omega arith, appends_none (g.W.Write.contents c.args.out.now), refl)

pub returns-then-is_empty-clause-whole : goal.returns-then-is_empty-clause-whole
returns-then-is_empty-clause-whole g c =
    let v = c.loop-turn.invariant in
    let none = eqb-true (length c.loop-turn.rest.now) 0 (sym c.is_empty.ensures ∙ c.if-is_empty.true) in
    rw (finished c.args.text.now c.loop-turn.rest.now v.0 v.1 v.3 none) at v.2

pub returns-then-is_empty-clause-front : goal.returns-then-is_empty-clause-front
returns-then-is_empty-clause-front g c = let v = c.loop-turn.invariant in (v.0, v.2)

pub returns-in_err-count-clause-front : goal.returns-in_err-count-clause-front
returns-in_err-count-clause-front g c = let v = c.loop-turn.invariant in (v.0, same_more _ _ _ _ v.2 c.in_err-count.ensures.nothing)

pub loop-turn-preserved : goal.loop-turn-preserved
loop-turn-preserved g c =
    let v = c.loop-turn.invariant in (
      v.0 + c.in_ok-count.count,
      more_few c.args.text.now c.loop-turn.rest.now v.0 c.in_ok-count.count v.1 v.3 c.in_ok-count.ensures.count,
      more_front _ _ _ c.args.text.now c.loop-turn.rest.now v.0 c.in_ok-count.count v.3 v.2 c.in_ok-count.ensures.taken,
      take_rest c.loop-turn.rest.now c.in_ok-count.count ∙ more_left c.args.text.now c.loop-turn.rest.now v.0 c.in_ok-count.count v.3,
    )

pub returns-clause-front : goal.returns-clause-front
returns-clause-front g c = let v = c.loop-turn.invariant in (v.0, v.2)
