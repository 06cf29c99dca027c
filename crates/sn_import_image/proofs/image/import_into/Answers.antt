use Rattle.std.proofs.Common.{◌++◌, subst}
use Rattle.std.specs.Prelude.{Result}
use Rattle.sn_import_calls.proofs.Made.{adds_more}
use Rattle.sn_import_image.specs.Imports.{made}
use Rattle.sn_import_image.specs.Opening.{IsOpened, first_calls}
use Rattle.sn_import_image.specs.declared.fault.ImportFault.{ImportFault}
use Rattle.sn_import_image.proofs.Works.{work_refused}
use Rattle.sn_import_image.proofs.image.import_into.Goals as goal

pub returns-in_err-open : goal.returns-in_err-open
returns-in_err-open g c =
    let o = c.open.ensures in (
      o.0,
      o.1,
      work_refused c.args.names.now c.args.path.now _ o.0 _ c.from_residual.result c.from_residual.ensures.1
          (subst (λ (r : Result (Unit {0}) ImportFault). IsOpened (first_calls c.args.path.now) o.0 r) c.in_err-open.was o.2),
    )

pub returns : goal.returns
returns g c =
    let o = c.open.ensures in
    let i = c.import.ensures in (
      o.0 ++ i.3.0,
      adds_more _ _ _ _ _ o.1 i.3.1,
      made o.0 i.3.0 i.0 i.1 (subst (λ (r : Result (Unit {0}) ImportFault). IsOpened (first_calls c.args.path.now) o.0 r) c.in_ok-open.was o.2) i.2 i.3.2,
    )
