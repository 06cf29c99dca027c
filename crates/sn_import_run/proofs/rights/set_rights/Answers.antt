use Rattle.std.proofs.Common.{[], ◌∷◌, None, List, subst}
use Rattle.sn_import.specs.declared.object.Object.{Object}
use Rattle.sn_import_calls.specs.Acts.{Told}
use Rattle.sn_import_run.specs.Imports.{AreGranted, sorted, unsorted}
use Rattle.sn_import_calls.specs.declared.stop.Stop.TheVariants.{Memory}
use Rattle.sn_import_calls.specs.declared.why.Why.TheVariants.{Stop}
use Rattle.sn_import_run.proofs.rights.set_rights.Goals as goal

pub returns-in-Ok : goal.returns-in-Ok
returns-in-Ok g c =
    let k = c.grant_all.ensures in
    (k.0, k.1, sorted c.order.new.directories.items k.0 c.in-Ok.ensures.ok (subst (λ (os : List Object). AreGranted os k.0) c.as_slice.ensures.value k.2))

pub returns : goal.returns
returns g c = (Told None [] (Stop Memory) ∷ [], c.report.ensures, unsorted)
