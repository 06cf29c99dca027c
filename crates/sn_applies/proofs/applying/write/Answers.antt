use Rattle.std.proofs.Common.{◌+◌, ◌&&◌, nat_lt, nat_le, length, is_some, arith, sym, ap, ◌∙◌}
use Rattle.sn_applies.proofs.ContentLemmas.{written_tested}
use Rattle.sn_applies.proofs.applying.write.Goals as goal

pub returns-in-Some-clause-found : goal.returns-in-Some-clause-found
returns-in-Some-clause-found g c told =
    let bytes = c.args.bytes.now in
    c.fits.ensures ∙ ap (λ o. is_some o && (nat_lt 0 (length bytes) && nat_le (c.args.offset + length bytes) c.args.limits.now.largest_file)) (sym c.in-Some.is ∙ c.in_ok-file_names.ensures.found told)
    ∙ written_tested c.args.limits.now (g.T.Below.shows c.args.tree.now) c.args.number c.args.offset bytes (λ i. omega (arith, c.type_inv.bytes i))

pub returns-in-None-clause-found : goal.returns-in-None-clause-found
returns-in-None-clause-found g c told =
    let bytes = c.args.bytes.now in
    ap (λ o. is_some o && (nat_lt 0 (length bytes) && nat_le (c.args.offset + length bytes) c.args.limits.now.largest_file)) (sym c.in-None.is ∙ c.in_ok-file_names.ensures.found told)
    ∙ written_tested c.args.limits.now (g.T.Below.shows c.args.tree.now) c.args.number c.args.offset bytes (λ i. omega (arith, c.type_inv.bytes i))
