use Rattle.std.proofs.Common.{◌≢◌, List, take_all, refl, sym, subst, ◌∙◌, arith}
use Rattle.std.specs.Prelude.{All}
use Rattle.sn_dir_change.specs.declared.name_change.NameChange.{NameChange as TheChange}
use Rattle.sn_dir_change.proofs.ChangeLemmas.{new_more}
use Rattle.sn_dir_change.proofs.name_change.is_new.Goals as goal

pub loop-change-preserved : goal.loop-change-preserved
loop-change-preserved c =
    new_more c.args.earlier.now c.loop-change.change-index _ c.args.name.now (omega (arith, c.loop-change-test.true)) c.loop-change.invariant (sym c.eq.ensures ∙ c.if-eq.false)

pub returns : goal.returns
returns c =
    let all = take_all c.loop-change.change-index c.args.earlier.now (omega (arith, c.loop-change-test.false)) in
    (λ yes. subst (λ (xs : List TheChange). All (λ (change : TheChange). change.name.now ≢ c.args.name.now) xs) all c.loop-change.invariant, λ none. refl)
