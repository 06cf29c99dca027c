use Rattle.std.proofs.Common.{◌∙◌, List, sym, ap, subst}
use Rattle.std.specs.List.Sorted.{IsPermutation}
use Rattle.std.proofs.lemmas.List.Sorted.{IsPermutation-sym}
use Rattle.std.proofs.lemmas.Option.{IfSome_then}
use Rattle.arrayvec.specs.ArrayVec.{ArrayVec}
use Rattle.sn_bytes.proofs.Fields.{some_none, some_some}
use Rattle.sn_acl.specs.declared.entries.Entry.{Entry}
use Rattle.sn_acl.specs.AccessList.{IsValid}
use Rattle.sn_acl_xattr.proofs.Raws.{value_fits, is_acl}
use Rattle.sn_acl_xattr.proofs.Sorting.{sorted_is}
use Rattle.sn_acl_xattr.proofs.value.decode.Goals as goal

pub returns-in_err-entries-clause-only : goal.returns-in_err-entries-clause-only
returns-in_err-entries-clause-only c = λ acl valid is.
    let fits = value_fits c.args.value.now acl valid is in
    some_none c.read_entries.result _ (c.read_entries.ensures.only is.entries fits.0 fits.1 is.has) c.in_err-entries.was

pub returns-clause-found : goal.returns-clause-found
returns-clause-found c =
    IfSome_then c.from_entries.result c.from_entries.ensures.found (λ acl found. (
      subst IsValid (sym found.0) found.1,
      record {
        entries = c.in_ok-entries.entries.items;
        has = c.in_ok-entries.ensures.found;
        order = subst (λ (es : List Entry). IsPermutation es c.in_ok-entries.entries.items) (sym (found.0 ∙ c.as_slice.ensures.value)) (IsPermutation-sym _ _ c.sort.ensures.permutation);
      },
    ))

pub returns-clause-only : goal.returns-clause-only
returns-clause-only c = λ acl valid is.
    let fits = value_fits c.args.value.now acl valid is in
    let made : List Entry → ArrayVec Entry = λ items. record { items = items } in
    let read = ap (λ (v : ArrayVec Entry). v.items) (some_some c.read_entries.result (made is.entries) c.in_ok-entries.entries (c.read_entries.ensures.only is.entries fits.0 fits.1 is.has) c.in_ok-entries.was) in
    let order = subst (λ (es : List Entry). IsPermutation acl es) read is.order in
    let sorted = c.as_slice.ensures.value ∙ sorted_is acl c.in_ok-entries.entries.items _ valid.canonical order c.sort.ensures.permutation c.sort.ensures.sorted in
    is_acl c.from_entries.result c.as_slice.result.now acl sorted valid c.from_entries.ensures.found c.from_entries.ensures.refused
