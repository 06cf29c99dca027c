use Rattle.std.proofs.Common.{Err, sym, ap, subst, ◌∙◌}
use Rattle.std.proofs.lemmas.Bool.{true≢false}
use Rattle.sn_marks.specs.Fault.{Tells}
use Rattle.sn_marks.specs.declared.fault.CheckFault.{CheckFault}
use Rattle.sn_check_root.proofs.WrongLemmas.{never_told}
use Rattle.sn_check_root.proofs.reserved.fetch_first.Goals as goal

pub returns-in-Err-clause-fault : goal.returns-in-Err-clause-fault
returns-in-Err-clause-fault g c told =
    subst (λ (f : CheckFault). Tells f (λ damage block. ⊥)) (sym c.fault_at.ensures)
    (never_told c.args.top c.in-Err.fault (λ found is. true≢false (sym (c.requires.lies told 0) ∙ (c.in-Err.ensures.damaged told found (ap (λ f. Err f) is)).0)))
