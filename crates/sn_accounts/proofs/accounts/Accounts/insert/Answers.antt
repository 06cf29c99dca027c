use Rattle.std.proofs.Common.{ap, ◌∙◌}
use Rattle.std.specs.FinMap as fin
use Rattle.sn_accounts.proofs.Tables.{inserted}
use Rattle.sn_accounts.proofs.accounts.Accounts.insert.Goals as goal

pub returns : goal.returns
returns c =
    inserted c.self.inside.numbers c.insert.new.self c.args.name.now c.args.number c.in_ok-insert.ensures.updates
    ∙ ap (λ m. fin.insert m c.args.name.now c.args.number) c.self.view_is
