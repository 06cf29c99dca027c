use Rattle.std.proofs.Common.{List, None, Some, [], refl, subst, ℕ, ◌++◌, ◌∷◌}
use Rattle.sn_import_calls.specs.Acts.{Told}
use Rattle.sn_import_calls.specs.Carried.{Grows}
use Rattle.sn_import_run.specs.Imports.{stop_told}
use Rattle.sn_import_calls.specs.declared.why.Why.TheVariants.{Stop}
use Rattle.sn_import_calls.proofs.Made.{adds_more}
use Rattle.sn_import_run.proofs.rights.grant.Goals as goal

pub returns-in-Err : goal.returns-in-Err
returns-in-Err g c =
    let k = c.in-Err.ensures.made in
    let told = stop_told c.args.object.now (Some c.in-Err.stop) in (
      Some c.in-Err.stop,
      c.ends_import.ensures,
      (
        k.0 ++ told,
        adds_more _ _ _ k.0 told k.1 (subst (λ (name : List ℕ). Grows (g.C.Calls.did c.close.new.to) (g.C.Calls.did c.report.new.self) (Told None name (Stop c.in-Err.stop) ∷ [])) c.as_bytes.ensures c.report.ensures),
        (k.0, refl, (c.in-Err.ensures.calls, k.2)),
      ),
    )
