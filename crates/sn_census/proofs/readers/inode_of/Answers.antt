use Rattle.std.proofs.Common.{Err, sym, ap, subst}
use Rattle.sn_marks.specs.Fault.{Tells}
use Rattle.sn_marks.specs.declared.fault.CheckFault.{CheckFault}
use Rattle.sn_check_root.proofs.WrongLemmas.{never_told}
use Rattle.sn_census.proofs.readers.inode_of.Goals as goal

pub returns-in-Err-clause-fault : goal.returns-in-Err-clause-fault
returns-in-Err-clause-fault g c told =
    subst (λ (f : CheckFault). Tells f (λ damage block. ⊥)) (sym c.fault_at.ensures)
    (never_told c.args.body c.in-Err.fault (λ found is. (c.in-Err.ensures.damaged told found (ap (λ f. Err f) is)).0 (c.requires.read told)))
