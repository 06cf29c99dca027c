use Rattle.std.proofs.Common.{◌-◌, take, drop, ap, ◌∙◌}
use Rattle.sn_model.specs.Tree.{link_cmp}
use Rattle.sn_overlay.proofs.ListLemmas.{spanned}
use Rattle.sn_overlay.proofs.lists.SortedMap+Link+Option+u16.names_of.Goals as goal

pub returns : goal.returns
returns c = ap (λ es. take (c.span_of-span.result.end - c.span_of-span.result.start) (drop c.span_of-span.result.start es)) c.deref.ensures.value
    ∙ spanned link_cmp (λ link. link.directory) c.args.directory c.args.self.now.entries.items _ _ c.span_of-span.ensures
