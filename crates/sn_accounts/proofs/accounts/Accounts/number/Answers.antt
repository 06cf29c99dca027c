use Rattle.std.proofs.Common.{sym, ap, ◌∙◌}
use Rattle.std.specs.FinMap as fin
use Rattle.sn_accounts.proofs.Tables.{get-map_of}
use Rattle.sn_accounts.proofs.accounts.Accounts.number.Goals as goal

pub returns : goal.returns
returns c = c.copied.ensures ∙ c.get.ensures.value ∙ sym (get-map_of c.self.inside.numbers.entries c.args.name.now) ∙ ap (λ m. fin.get m c.args.name.now) c.self.view_is
