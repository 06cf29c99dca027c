use Rattle.std.proofs.Common.{ℕ, List, ap}
use Rattle.sn_import_image.specs.Opening.{stat}
use Rattle.sn_import_image.proofs.Openings.{asks}
use Rattle.sn_import_image.proofs.opening.look.Goals as goal

pub returns : goal.returns
returns g c = asks _ _ _ (stat c.args.path.now) c.ask.result (ap (λ (path : List ℕ). stat path) c.in_ok-new.ensures) c.ask.ensures
