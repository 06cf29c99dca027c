use Rattle.std.proofs.Common.{List, subst}
use Rattle.std.specs.List.Sorted.{IsPermutation}
use Rattle.sn_acl.specs.declared.entries.Entry.{Entry}
use Rattle.sn_acl_xattr.proofs.Raws.{one_list}
use Rattle.sn_acl_xattr.proofs.Sorting.{canonical_is}
use Rattle.sn_acl_xattr.proofs.laws.values_are_of_one_acl.Goals as goal

pub returns : goal.returns
returns c = λ value a b valid-a valid-b is-a is-b.
    let entries = one_list value is-a.entries is-b.entries is-a.has is-b.has in
    canonical_is a b is-b.entries valid-a.canonical valid-b.canonical (subst (λ (es : List Entry). IsPermutation a es) entries is-a.order) is-b.order
