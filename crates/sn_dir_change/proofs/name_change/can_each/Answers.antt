use Rattle.std.proofs.Common.{List, take_all, refl, sym, subst, ◌∙◌, arith}
use Rattle.std.proofs.lemmas.Bool.{true≢false}
use Rattle.std.proofs.lemmas.List.Elements.{Contains-get_or}
use Rattle.sn_dir_change.specs.Changes.{AreLinkChanges}
use Rattle.sn_dir_change.specs.declared.name_change.NameChange.{NameChange as TheChange}
use Rattle.sn_dir_change.proofs.ChangeLemmas.{link_changes_more}
use Rattle.sn_dir_change.proofs.name_change.can_each.Goals as goal

pub loop-change-preserved : goal.loop-change-preserved
loop-change-preserved c =
    link_changes_more c.args.changes.now c.loop-change.change-index _ (omega (arith, c.loop-change-test.true)) c.loop-change.invariant (c.is_change.ensures.0 c.if-not-is_change.false)

pub returns-then-not-is_change : goal.returns-then-not-is_change
returns-then-not-is_change c = (
  λ no. absurd (true≢false (sym no)),
  λ all.
      let is = all _ (Contains-get_or c.args.changes.now c.loop-change.change-index _ (omega (arith, c.loop-change-test.true))) in
      absurd (true≢false (sym (c.is_change.ensures.1 is) ∙ c.if-not-is_change.true)),
)

pub returns : goal.returns
returns c =
    let all = take_all c.loop-change.change-index c.args.changes.now (omega (arith, c.loop-change-test.false)) in
    (λ yes. subst (λ (xs : List TheChange). AreLinkChanges xs) all c.loop-change.invariant, λ each. refl)
