use Rattle.std.proofs.Common.{◌≡◌, Err, inr, sym, ap, ◌∙◌}
use Rattle.std.proofs.lemmas.Bool.{true≢false}
use Rattle.std.proofs.lemmas.Result.{err_from_is_err_and}
use Rattle.sn_tree.proofs.FaultLemmas.{leads_outside}
use Rattle.sn_tree.specs.declared.fault.PlanFault.TheVariants.{Tree}
use Rattle.sn_tree_read.specs.declared.fault.TreeFault.TheVariants.{Damaged}
use Rattle.sn_cp_nodes.proofs.directories.begun.Goals as goal

pub returns-then-fresh-clause-begun : goal.returns-then-fresh-clause-begun
returns-then-fresh-clause-begun g c = record {
  released = c.in_ok-release_all.ensures.released.released;
  grew = c.in_ok-release_all.ensures.released.grew;
  kept = λ stale. absurd (true≢false (sym c.if-fresh.true ∙ stale));
  empty = λ _. c.empty.ensures;
  all = λ told _. c.in_ok-release_all.ensures.released.all told;
}

pub returns-in_err-release_all-clause-damaged : goal.returns-in_err-release_all-clause-damaged
returns-in_err-release_all-clause-damaged g c told block is =
    let p = err_from_is_err_and c.from_residual.result c.from_residual.ensures.1 in
    let fault : c.in_err-release_all.field-0.0 ≡ Tree (Damaged block) = cc (p.1, p.2) in
    inr (leads_outside (c.in_err-release_all.ensures.damaged told block (ap (λ f. Err f) fault)))
