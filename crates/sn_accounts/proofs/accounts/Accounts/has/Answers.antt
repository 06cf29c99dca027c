use Rattle.std.proofs.Common.{is_some, sym, ap, ◌∙◌}
use Rattle.std.specs.FinMap as fin
use Rattle.sn_accounts.proofs.Tables.{get-map_of}
use Rattle.sn_accounts.proofs.accounts.Accounts.has.Goals as goal

pub returns : goal.returns
returns c = c.contains_key.ensures ∙ ap is_some (sym (get-map_of c.self.inside.numbers.entries c.args.name.now)) ∙ ap (λ m. is_some (fin.get m c.args.name.now)) c.self.view_is
