use Rattle.std.proofs.Common.{◌≡◌, ◌∙◌, ◌+◌, List, Option, length, ap, arith}
use Rattle.sn_acl.specs.declared.entries.Entry.{Entry}
use Rattle.sn_acl.specs.AccessList.{IsValid}
use Rattle.sn_layout_acl.specs.AclBlock.{default_entries}
use Rattle.sn_layout_acl.proofs.AclLists.{valid_short}
use Rattle.sn_record.specs.Payload.{named_of}
use Rattle.sn_record.proofs.Parts.{parts_count}
use Rattle.sn_record.proofs.ownership.entries_of.Goals as goal

counted : (es acl : List Entry) → es ≡ acl → IsValid acl → length es ≡ 3 + length (named_of acl)
counted es acl same v = ap length same ∙ parts_count acl v

pub overflow_sub-access : goal.overflow_sub-access
overflow_sub-access c =
    omega (arith, counted c.entries.result.now c.args.ownership.now.acl c.entries.ensures.value c.entries.ensures.valid)

pub returns-in-Some-clause-value : goal.returns-in-Some-clause-value
returns-in-Some-clause-value c =
    let all = counted c.entries.result.now c.args.ownership.now.acl c.entries.ensures.value c.entries.ensures.valid in
    omega (arith, all, ap length c.entries-in-Some.ensures.value, ap (λ (d : Option (List Entry)). length (default_entries d)) c.in-Some.is)

pub returns-in-Some-clause-most : goal.returns-in-Some-clause-most
returns-in-Some-clause-most c =
    omega (arith, ap length c.entries.ensures.value, ap length c.entries-in-Some.ensures.value, valid_short c.args.ownership.now.acl c.entries.ensures.valid, valid_short _ c.entries-in-Some.ensures.valid)

pub returns-in-None-clause-value : goal.returns-in-None-clause-value
returns-in-None-clause-value c =
    let all = counted c.entries.result.now c.args.ownership.now.acl c.entries.ensures.value c.entries.ensures.valid in
    omega (arith, all, ap (λ (d : Option (List Entry)). length (default_entries d)) c.in-None.is)

pub returns-in-None-clause-most : goal.returns-in-None-clause-most
returns-in-None-clause-most c = omega (arith, ap length c.entries.ensures.value, valid_short c.args.ownership.now.acl c.entries.ensures.valid)
