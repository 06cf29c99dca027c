use Rattle.std.proofs.Common.{◌++◌, length, arith, ap, sym, ◌∙◌}
use Rattle.sn_acl.specs.Text.{entry_text}
use Rattle.sn_acl.proofs.Lists.{length-valid}
use Rattle.sn_acl.proofs.list.Acl.print.Goals as goal

pub push_more-requires : goal.push_more-requires
push_more-requires c =
    let whole = ap length (sym c.entries.ensures.value ∙ c.in-Some.ensures.cases.0) in
    let first = ap length (c.push_entry.ensures.bytes ∙ ap (λ t. t ++ entry_text c.in-Some.first.now) c.new-text.ensures) in
    omega (arith, length-valid c.args.self.now c.entries.ensures.valid, whole, first, c.push_entry.ensures.short)
