use Rattle.std.proofs.Common.{◌∙◌, List, rules, sym, ap, subst, drop, length}
use Rattle.std.specs.List.Sorted.{IsSortedBy}
use Rattle.std.proofs.lemmas.List.{take_at}
use Rattle.std.proofs.lemmas.List.Sorted.{answers_always}
use Rattle.sn_acl.specs.declared.entries.Entry.{Entry}
use Rattle.sn_acl_xattr.proofs.Sorting.{before, is_order}
use Rattle.sn_acl_xattr.proofs.order.sort.Goals as goal

pub returns-clause-sorted : goal.returns-clause-sorted
returns-clause-sorted c =
    let entries = c.args.entries.now.items in
    let slice = c.sort_unstable_by.new.self in
    let whole = take_at slice (drop (length slice) entries) (length entries) (c.sort_unstable_by.ensures.len ∙ ap length c.as_mut_slice.ensures.value) in
    subst (λ (es : List Entry). IsSortedBy before es) (sym whole) (c.sort_unstable_by.ensures.sorted before is_order (answers_always _ _ _ (λ f a r g h. search rules)))
