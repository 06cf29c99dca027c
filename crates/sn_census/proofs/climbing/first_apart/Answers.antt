use Rattle.std.proofs.Common.{◌≡◌, ◌≢◌, ⊎_elim, ℕ, ◌<◌, ◌≤◌, sym, ap, subst, ◌∙◌, arith}
use Rattle.std.proofs.lemmas.Bool.{cases_eq, cases_lt}
use Rattle.sn_census.specs.Climbs.{LeadsUp, parents_of}
use Rattle.sn_census.specs.Rows.{row_at}
use Rattle.sn_census.proofs.RowLemmas.{kept_joined, unused_kind}
use Rattle.sn_census.proofs.climbing.first_apart.Goals as goal

pub loop-number-init : goal.loop-number-init
loop-number-init c = record { climbed = λ none. c.begin.ensures.climbed none; up = λ none directory above under kind. absurd (omega (arith, above, under)); kept = c.begin.ensures.kept }

pub loop-number-preserved : goal.loop-number-preserved
loop-number-preserved c = record {
  climbed = λ none. c.leads_up.ensures.climbed (parents_of c.args.census.now) (c.loop-number.invariant.climbed none) c.if-not-leads_up.false;
  up = λ none directory above under kind. ⊎_elim
      (λ (same : directory ≡ c.loop-number.number).
      subst (LeadsUp (parents_of c.args.census.now)) (sym same)
      (c.leads_up.ensures.up (parents_of c.args.census.now) (c.loop-number.invariant.climbed none)
      ((c.loop-number.invariant.kept c.loop-number.number).kind ∙ ap (λ (n : ℕ). (row_at c.args.census.now n).kind) (sym same) ∙ kind) c.if-not-leads_up.false))
      (λ (other : directory ≢ c.loop-number.number). c.loop-number.invariant.up none directory above (omega (arith, under, other)) kind)
      (cases_eq directory c.loop-number.number);
  kept = λ number. kept_joined _ _ _ (c.loop-number.invariant.kept number) (c.leads_up.ensures.kept number);
}

pub returns-then-not-leads_up-clause-kept : goal.returns-then-not-leads_up-clause-kept
returns-then-not-leads_up-clause-kept c = λ number. kept_joined _ _ _ (c.loop-number.invariant.kept number) (c.leads_up.ensures.kept number)

pub returns-clause-none : goal.returns-clause-none
returns-clause-none c = λ none directory above under kind. ⊎_elim
    (λ (below : directory < c.loop-number.number). c.loop-number.invariant.up none directory above below kind)
    (λ (behind : c.loop-number.number ≤ directory).
    absurd (unused_kind (row_at c.begin.new.census directory) (c.used-number-end.ensures.rest directory (omega (arith, behind))) ((c.begin.ensures.kept directory).kind ∙ kind)))
    (cases_lt directory c.loop-number.number)
