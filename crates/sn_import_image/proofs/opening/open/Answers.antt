use Rattle.std.proofs.Common.{[], ◌∷◌, ◌++◌, subst}
use Rattle.std.specs.Prelude.{Result}
use Rattle.sn_import_calls.proofs.Made.{adds_more}
use Rattle.sn_import_image.specs.Opening.{IsOpened, access, login, stat}
use Rattle.sn_import_image.specs.declared.fault.ImportFault.{ImportFault}
use Rattle.sn_import_image.proofs.Openings.{opened_more, opened_stop}
use Rattle.sn_import_image.proofs.opening.open.Goals as goal

pub returns-in_err-log_in : goal.returns-in_err-log_in
returns-in_err-log_in g c =
    let path = c.args.path.now in
    let l = c.log_in.ensures in (
      l.0,
      l.1,
      opened_stop (login ∷ []) (access path ∷ stat path ∷ []) l.0 _ c.from_residual.result c.from_residual.ensures.1
          (subst (λ (r : Result (Unit {0}) ImportFault). IsOpened (login ∷ []) l.0 r) c.in_err-log_in.was l.2),
    )

pub returns-in_err-ask_to_write : goal.returns-in_err-ask_to_write
returns-in_err-ask_to_write g c =
    let path = c.args.path.now in
    let l = c.log_in.ensures in
    let a = c.ask_to_write.ensures in (
      l.0 ++ a.0,
      adds_more _ _ _ _ _ l.1 a.1,
      opened_more (login ∷ []) (access path ∷ stat path ∷ []) l.0 a.0 _ (subst (λ (r : Result (Unit {0}) ImportFault). IsOpened (login ∷ []) l.0 r) c.in_ok-log_in.was l.2)
          (opened_stop (access path ∷ []) (stat path ∷ []) a.0 _ c.from_residual-in_err-ask_to_write.result c.from_residual-in_err-ask_to_write.ensures.1
          (subst (λ (r : Result (Unit {0}) ImportFault). IsOpened (access path ∷ []) a.0 r) c.in_err-ask_to_write.was a.2)),
    )

pub returns : goal.returns
returns g c =
    let path = c.args.path.now in
    let l = c.log_in.ensures in
    let a = c.ask_to_write.ensures in
    let k = c.look.ensures in (
      l.0 ++ (a.0 ++ k.0),
      adds_more _ _ _ _ _ l.1 (adds_more _ _ _ _ _ a.1 k.1),
      opened_more (login ∷ []) (access path ∷ stat path ∷ []) l.0 (a.0 ++ k.0) _ (subst (λ (r : Result (Unit {0}) ImportFault). IsOpened (login ∷ []) l.0 r) c.in_ok-log_in.was l.2)
          (opened_more (access path ∷ []) (stat path ∷ []) a.0 k.0 _ (subst (λ (r : Result (Unit {0}) ImportFault). IsOpened (access path ∷ []) a.0 r) c.in_ok-ask_to_write.was a.2) k.2),
    )
