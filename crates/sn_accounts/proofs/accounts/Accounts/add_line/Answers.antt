use Rattle.std.proofs.Common.{is_some, sym, ap, ◌∙◌}
use Rattle.std.specs.FinMap as fin
use Rattle.std.specs.Option.{option_map}
use Rattle.sn_accounts.specs.Lines.{account_of}
use Rattle.sn_accounts.proofs.Tables.{told_again, told_first}
use Rattle.sn_accounts.proofs.accounts.Accounts.add_line.Goals as goal

pub returns-then-has : goal.returns-then-has
returns-then-has c = λ told is.
    let account = c.in-Some.account in
    let line = ap (option_map (λ a. (a.name.now, a.number))) (sym c.in-Some.is) ∙ c.in_ok-account.ensures in
    let known = ap (λ m. is_some (fin.get m account.name.now)) (sym is) ∙ sym c.has.ensures ∙ c.if-has.true in
    is ∙ told_again told (account_of c.args.line.now) account.name.now account.number line known

pub returns : goal.returns
returns c = λ told is.
    let account = c.in-Some.account in
    let line = ap (option_map (λ a. (a.name.now, a.number))) (sym c.in-Some.is) ∙ c.in_ok-account.ensures in
    let unknown = ap (λ m. is_some (fin.get m account.name.now)) (sym is) ∙ sym c.has.ensures ∙ c.if-has.false in
    c.in_ok-insert.ensures ∙ ap (λ m. fin.insert m account.name.now account.number) is ∙ told_first told (account_of c.args.line.now) account.name.now account.number line unknown
