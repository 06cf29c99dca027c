use Rattle.std.proofs.Common.{List, take_all, refl, sym, subst, ◌∙◌, arith}
use Rattle.std.proofs.lemmas.Bool.{true≢false}
use Rattle.sn_dir_change.specs.UnderWay.{AreApart}
use Rattle.sn_dir_change.specs.declared.name_change.NameChange.{NameChange as TheChange}
use Rattle.sn_dir_change.proofs.ChangeLemmas.{apart_more, changes_apart}
use Rattle.sn_dir_change.proofs.name_change.are_apart.Goals as goal

pub loop-i-preserved : goal.loop-i-preserved
loop-i-preserved c =
    apart_more c.args.changes.now c.loop-i.i _ (omega (arith, c.loop-i-test.true)) c.loop-i.invariant (c.is_new.ensures.0 c.if-not-is_new.false)

pub returns-then-not-is_new : goal.returns-then-not-is_new
returns-then-not-is_new c = (
  λ no. absurd (true≢false (sym no)),
  λ all.
      let new = c.is_new.ensures.1 (changes_apart c.args.changes.now c.loop-i.i _ (omega (arith, c.loop-i-test.true)) all) in
      absurd (true≢false (sym new ∙ c.if-not-is_new.true)),
)

pub returns : goal.returns
returns c =
    let all = take_all c.loop-i.i c.args.changes.now (omega (arith, c.loop-i-test.false)) in
    (λ yes. subst (λ (xs : List TheChange). AreApart xs) all c.loop-i.invariant, λ apart. refl)
