use Rattle.std.proofs.Common.{◌++◌, ap, ◌∙◌}
use Rattle.std.specs.Option.{option_to_list}
use Rattle.sn_accounts.specs.Lines.{account_of, accounts_of}
use Rattle.sn_accounts.proofs.Tables.{told_map, next_line, last_line}
use Rattle.sn_accounts.proofs.accounts.Accounts.read.Goals as goal

pub loop-line-preserved : goal.loop-line-preserved
loop-line-preserved c =
    let so_far = c.loop-line.invariant in
    let line = c.in-Some.line.now in (
      so_far.0 ++ option_to_list (account_of line),
      c.in_ok-add_line.ensures so_far.0 so_far.1,
      next_line so_far.0 (accounts_of c.args.text.now) line c.in-Some.others.now c.loop-line.rest.now c.in-Some.ensures.found c.in-Some.ensures.first so_far.2,
    )

pub returns : goal.returns
returns c =
    let so_far = c.loop-line.invariant in
    c.in_ok-add_line-2.ensures so_far.0 so_far.1 ∙ ap told_map (last_line so_far.0 (accounts_of c.args.text.now) c.loop-line.rest.now c.in_default.ensures.none so_far.2)
