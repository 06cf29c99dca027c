use Rattle.std.proofs.Common.{ℕ, List, ap}
use Rattle.sn_model.specs.declared.call.Call.TheVariants.{Login}
use Rattle.sn_import_image.specs.Opening.{login}
use Rattle.sn_import_image.proofs.Openings.{asks}
use Rattle.sn_import_image.proofs.opening.log_in.Goals as goal

pub returns : goal.returns
returns g c = asks _ _ _ login c.ask.result (ap (λ (groups : List ℕ). Login 0 0 groups) c.in_ok-new.ensures) c.ask.ensures
