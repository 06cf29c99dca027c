use Rattle.std.proofs.Common.{◌&&◌, nat_le, is_some, sym, ap, ◌∙◌}
use Rattle.sn_applies.proofs.ContentLemmas.{cut_tested}
use Rattle.sn_applies.proofs.applying.set_size.Goals as goal

pub returns-in-Some-clause-found : goal.returns-in-Some-clause-found
returns-in-Some-clause-found g c told =
    ap (λ o. is_some o && nat_le c.args.size c.args.limits.now.largest_file) (sym c.in-Some.is ∙ c.in_ok-file_names.ensures.found told)
    ∙ cut_tested c.args.limits.now (g.T.Below.shows c.args.tree.now) c.args.number c.args.size

pub returns-in-None-clause-found : goal.returns-in-None-clause-found
returns-in-None-clause-found g c told =
    ap (λ o. is_some o && nat_le c.args.size c.args.limits.now.largest_file) (sym c.in-None.is ∙ c.in_ok-file_names.ensures.found told)
    ∙ cut_tested c.args.limits.now (g.T.Below.shows c.args.tree.now) c.args.number c.args.size
