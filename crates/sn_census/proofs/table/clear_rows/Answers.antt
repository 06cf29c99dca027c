use Rattle.std.proofs.Common.{◌≡◌, ◌++◌, List, length, take, drop, replicate, ap, ◌∙◌, arith}
use Rattle.std.proofs.lemmas.List.{length-take}
use Rattle.sn_census.specs.Rows.{unused_row}
use Rattle.sn_census.specs.declared.table.Row.{Row}
use Rattle.sn_census.proofs.table.clear_rows.Goals as goal

pub returns : goal.returns
returns c =
    let rows = c.args.rows.now in
    let count = c.args.count in
    let size : length (take count rows) ≡ count = omega (arith, length-take count rows) in
    ap (λ (part : List Row). part ++ drop count rows) (c.fill.ensures.after (λ y is. is) ∙ ap (λ (row : Row). replicate (length (take count rows)) row) c.unused.ensures ∙ ap (λ n. replicate n unused_row) size)
